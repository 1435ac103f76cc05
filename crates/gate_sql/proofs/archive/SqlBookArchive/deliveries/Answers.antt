use Rattle.std.proofs.Common.{refl}
use Rattle.sqlite.specs.Held.{state}
use Rattle.gate_table_laws.proofs.KeptLemmas.{kept_by}
use Rattle.gate_sql.proofs.ArchiveLemmas.{feed_so}
use Rattle.gate_sql.proofs.archive.SqlBookArchive.deliveries.Goals as goal

pub returns-clause-found : goal.returns-clause-found
returns-clause-found g c clean s x held lawful =
    feed_so held c.args.after c.args.most c.args.front.now g.W.Write.contents c.args.w.now c.deliveries.new.w c.deliveries.result (c.deliveries.ensures.found clean) (c.deliveries.ensures.opened clean)

pub returns-clause-kept : goal.returns-clause-kept
returns-clause-kept g c =
    let old = c.args.self.now in
    kept_by (λ book. state g.S.Store book.conn) (λ book. book.queues.items) old (record old { conn = c.deliveries.new.conn }) refl c.deliveries.ensures.only_reads

use Rattle.std.proofs.Common.{◌∙◌, ap, option_copied, refl, sym}
use Rattle.sqlite.specs.Held.{state}
use Rattle.gate_table_laws.proofs.KeptLemmas.{kept_by}
use Rattle.gate_sql.proofs.ArchiveLemmas.{history_so, none_among}
use Rattle.gate_sql.proofs.HistoryLemmas.{no_queue}
use Rattle.gate_sql.proofs.archive.SqlBookArchive.history_from.Goals as goal

pub returns-in_default-clause-found : goal.returns-in_default-clause-found
returns-in_default-clause-found g c clean s x held lawful =
    no_queue held lawful c.args.queue.now (none_among _ c.args.queue.now (rw c.as_slice.ensures.value at (sym c.queue_named.ensures ∙ ap option_copied c.in_default.is)))

pub returns-clause-found : goal.returns-clause-found
returns-clause-found g c clean s x held lawful =
    history_so held lawful c.args.queue.now c.in-Some.queue.now (rw c.as_slice.ensures.value at (sym c.queue_named.ensures ∙ ap option_copied c.in-Some.is))
    c.args.from c.args.front.now g.W.Write.contents c.args.w.now c.history_from.new.w c.history_from.result (c.history_from.ensures.found clean) (c.history_from.ensures.opened clean)

pub returns-clause-kept : goal.returns-clause-kept
returns-clause-kept g c =
    let old = c.args.self.now in
    kept_by (λ book. state g.S.Store book.conn) (λ book. book.queues.items) old (record old { conn = c.history_from.new.conn }) refl c.history_from.ensures.only_reads

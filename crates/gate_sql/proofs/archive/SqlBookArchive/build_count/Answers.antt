use Rattle.std.proofs.Common.{ap, length, refl, rules}
use Rattle.sqlite.specs.Held.{state}
use Rattle.gate_book_trait.proofs.ReadingLemmas.{is_read}
use Rattle.gate_table_laws.proofs.KeptLemmas.{kept_by}
use Rattle.gate_table_laws.proofs.ReadLemmas.{reads_are, told_of}
use Rattle.gate_sql.proofs.ArchiveLemmas.{archive_of}
use Rattle.gate_sql.proofs.archive.SqlBookArchive.build_count.Goals as goal

pub returns : goal.returns
returns g c = is_read (λ clean s x held lawful.
    reads_are _ (state g.S.Store c.args.self.now.conn) (state g.S.Store c.build_count.new.conn) c.build_count.result c.build_count.ensures.found c.build_count.ensures.opened clean held
    (λ b told. ((told_of held.sound lawful told).0, ap length ((archive_of held.sound lawful told).builds c.args.serial))))
    (let old = c.args.self.now in
    kept_by (λ book. state g.S.Store book.conn) (λ book. book.queues.items) old (record old { conn = c.build_count.new.conn }) refl c.build_count.ensures.only_reads)
    (search rules)

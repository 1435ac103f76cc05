use Rattle.std.proofs.Common.{refl, rules}
use Rattle.sqlite.specs.Held.{state}
use Rattle.gate_book_trait.proofs.ReadingLemmas.{is_read}
use Rattle.gate_table_laws.proofs.KeptLemmas.{kept_by}
use Rattle.gate_sql.proofs.ArchiveLemmas.{archive_of, reports_are}
use Rattle.gate_sql.proofs.archive.SqlBookArchive.left.Goals as goal

pub returns : goal.returns
returns g c = is_read (λ clean s x held lawful.
    reports_are _ (state g.S.Store c.args.self.now.conn) (state g.S.Store c.left.new.conn) c.left.result c.left.ensures.found c.left.ensures.opened clean held
    (λ b told. let past = archive_of held.sound lawful told in (past.left_in_form, past.left c.args.serial)))
    (let old = c.args.self.now in
    kept_by (λ book. state g.S.Store book.conn) (λ book. book.queues.items) old (record old { conn = c.left.new.conn }) refl c.left.ensures.only_reads)
    (search rules)

use Rattle.std.proofs.Common.{refl, rules}
use Rattle.sqlite.specs.Held.{state}
use Rattle.gate_book_trait.proofs.ReadingLemmas.{is_read}
use Rattle.gate_table_laws.proofs.KeptLemmas.{kept_by}
use Rattle.gate_table_laws.proofs.ReadLemmas.{reads_are, told_of}
use Rattle.gate_sql.proofs.ArchiveLemmas.{archive_of}
use Rattle.gate_sql.proofs.archive.SqlBookArchive.last_builds.Goals as goal

pub returns : goal.returns
returns g c = is_read (λ clean s x held lawful.
    reads_are _ (state g.S.Store c.args.self.now.conn) (state g.S.Store c.last_builds.new.conn) c.last_builds.result c.last_builds.ensures.found c.last_builds.ensures.opened clean held
    (λ b told. ((told_of held.sound lawful told).0, (archive_of held.sound lawful told).last_builds c.args.serial c.args.most)))
    (let old = c.args.self.now in
    kept_by (λ book. state g.S.Store book.conn) (λ book. book.queues.items) old (record old { conn = c.last_builds.new.conn }) refl c.last_builds.ensures.only_reads)
    (search rules)

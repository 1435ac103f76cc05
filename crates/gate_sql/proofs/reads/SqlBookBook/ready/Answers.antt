use Rattle.std.proofs.Common.{refl, rules}
use Rattle.sqlite.specs.Held.{state}
use Rattle.gate_book_trait.proofs.ReadingLemmas.{is_read}
use Rattle.gate_table_laws.proofs.KeptLemmas.{kept_by}
use Rattle.gate_table_laws.proofs.ReadLemmas.{reads_so, told_of}
use Rattle.gate_sql.proofs.reads.SqlBookBook.ready.Goals as goal

pub returns : goal.returns
returns g c = is_read (λ clean s x held lawful.
    reads_so _ (state g.S.Store c.args.self.now.conn) (state g.S.Store c.ready.new.conn) c.ready.result c.ready.ensures.found c.ready.ensures.opened clean held
    (λ b told. let say = told_of held.sound lawful told in (say.0, say.1.ready)))
    (let old = c.args.self.now in
    kept_by (λ book. state g.S.Store book.conn) (λ book. book.queues.items) old (record old { conn = c.ready.new.conn }) refl c.ready.ensures.only_reads)
    (search rules)

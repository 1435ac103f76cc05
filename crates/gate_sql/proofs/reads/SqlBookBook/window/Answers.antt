use Rattle.std.proofs.Common.{refl, rules}
use Rattle.sqlite.specs.Held.{state}
use Rattle.gate_book_trait.proofs.ReadingLemmas.{is_read}
use Rattle.gate_table_laws.proofs.KeptLemmas.{kept_by}
use Rattle.gate_table_laws.proofs.ReadLemmas.{reads_are, told_of}
use Rattle.gate_sql.proofs.reads.SqlBookBook.window.Goals as goal

pub returns : goal.returns
returns g c = is_read (λ clean s x held lawful.
    reads_are _ (state g.S.Store c.args.self.now.conn) (state g.S.Store c.window.new.conn) c.window.result c.window.ensures.found c.window.ensures.opened clean held
    (λ b told. let say = told_of held.sound lawful told in (say.0, say.1.window c.args.queue.now)))
    (let old = c.args.self.now in
    kept_by (λ book. state g.S.Store book.conn) (λ book. book.queues.items) old (record old { conn = c.window.new.conn }) refl c.window.ensures.only_reads)
    (search rules)

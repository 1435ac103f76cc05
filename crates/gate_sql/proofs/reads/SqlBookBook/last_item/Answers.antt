use Rattle.std.proofs.Common.{ap, refl, rules}
use Rattle.gate_book_trait.specs.Reads.{last_item_below}
use Rattle.sqlite.specs.Held.{state}
use Rattle.gate_book_trait.proofs.ReadingLemmas.{is_read}
use Rattle.gate_table_laws.proofs.KeptLemmas.{kept_by}
use Rattle.gate_table_laws.proofs.ReadLemmas.{reads_are, told_of}
use Rattle.gate_sql.proofs.reads.SqlBookBook.last_item.Goals as goal

pub returns-clause-reads : goal.returns-clause-reads
returns-clause-reads g c = is_read (λ clean s x held lawful.
    reads_are _ (state g.S.Store c.args.self.now.conn) (state g.S.Store c.last_item.new.conn) c.last_item.result c.last_item.ensures.found c.last_item.ensures.opened clean held
    (λ b told. let say = told_of held.sound lawful told in (say.0, ap (last_item_below c.args.below) (say.1.items c.args.queue.now))))
    (let old = c.args.self.now in
    kept_by (λ book. state g.S.Store book.conn) (λ book. book.queues.items) old (record old { conn = c.last_item.new.conn }) refl c.last_item.ensures.only_reads)
    (search rules)

use Rattle.std.proofs.Common.{◌≡◌, List, subst}
use Rattle.std.specs.Prelude.{◌==◌, find, IfOk}
use Rattle.gate_types.specs.Tables.{QueueRows}
use Rattle.gate_book_trait.specs.RowReads.{all_queued}
use Rattle.gate_book.proofs.MemoryLemmas.{whole_rows}
use Rattle.gate_book.proofs.tables.MemTables.queued.Goals as goal

pub returns : goal.returns
returns c =
    subst (λ (qs : List QueueRows). IfOk c.queued_in.result (λ found. found ≡ find (λ k. k.item.change == c.args.change) (all_queued qs)))
    (whole_rows c.args.self.now.queues.items) (rw c.deref.ensures.value at c.queued_in.ensures)

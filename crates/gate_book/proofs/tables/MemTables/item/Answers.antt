use Rattle.std.proofs.Common.{◌∙◌, List, ap}
use Rattle.std.specs.Prelude.{◌==◌, find, option_map}
use Rattle.gate_types.specs.Tables.{QueueRows}
use Rattle.gate_book_trait.specs.RowReads.{all_queued}
use Rattle.gate_book_trait.specs.declared.rows.QueuedItem.{QueuedItem}
use Rattle.gate_book.proofs.MemoryLemmas.{whole_rows}
use Rattle.gate_book.proofs.tables.MemTables.item.Goals as goal

pub returns : goal.returns
returns c =
    let found = rw c.deref.ensures.value at c.item_in.ensures in
    c.copied.ensures ∙ found
    ∙ ap (λ (qs : List QueueRows). option_map (λ (k : QueuedItem). k.item) (find (λ k. k.item.serial == c.args.serial) (all_queued qs)))
    (whole_rows c.args.self.now.queues.items)

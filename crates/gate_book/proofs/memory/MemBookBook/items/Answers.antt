use Rattle.std.proofs.Common.{◌∙◌, ap, rules}
use Rattle.gate_types.specs.Tables.{Tables}
use Rattle.gate_book_trait.specs.RowReads.{items_named}
use Rattle.gate_book_trait.proofs.ReadLemmas.{items_are}
use Rattle.gate_book_trait.proofs.ReadingLemmas.{is_read}
use Rattle.gate_book.specs.Memory.{Held}
use Rattle.gate_book.proofs.MemoryLemmas.{items_in}
use Rattle.gate_book.proofs.memory.MemBookBook.items.Goals as goal

pub returns : goal.returns
returns c = is_read (λ _ s x held lawful.
    c.in_ok-items.ensures ∙ ap items_in c.queue_named-table.ensures.found ∙ ap (λ (t : Tables). items_named t.queues c.args.queue.now) (ap (λ (m : Held). m.tables) (c.self.view_is ∙ held)) ∙ items_are s x c.args.queue.now)
    (search rules) (search rules)

use Rattle.std.proofs.Common.{◌≡◌, ◌∙◌, List, ap, ◌<◌, true, None, rules}
use Rattle.std.specs.Prelude.{nat_lt}
use borrow.Author.Tests.{ltb-true}
use Rattle.gate_types.specs.declared.records.Item.{Item}
use Rattle.gate_types.specs.Tables.{Tables}
use Rattle.gate_book_trait.specs.Reads as read
use Rattle.gate_book_trait.specs.RowReads.{items_named}
use Rattle.gate_book_trait.proofs.ReadingLemmas.{is_read}
use Rattle.gate_book.specs.Memory.{Held}
use Rattle.gate_book_trait.proofs.ReadLemmas.{items_are, last_passes, weaker_if}
use Rattle.gate_book.proofs.MemoryLemmas.{items_in}
use Rattle.std.specs.Option.{option_copied}
use Rattle.gate_memory.specs.Named.{items_found}
use Rattle.gate_book.proofs.memory.MemBookBook.last_item.Goals as goal

pub returns-clause-reads : goal.returns-clause-reads
returns-clause-reads c = is_read (λ _ s x held lawful.
    c.last_item.ensures ∙ ap (read.last_item_below c.args.below) (ap items_in c.queue_named.ensures.found ∙ ap (λ (t : Tables). items_named t.queues c.args.queue.now) (ap (λ (m : Held). m.tables) (c.self.view_is ∙ held)) ∙ items_are s x c.args.queue.now))
    (search rules) (search rules)

pub returns-clause-falls : goal.returns-clause-falls
returns-clause-falls c =
    let items : List Item = items_found (option_copied c.queue_named.result) in
    rw c.last_item.ensures (weaker_if (λ (i : Item). nat_lt i.serial c.args.below ≡ true) (λ (i : Item). i.serial < c.args.below) (λ i e. ltb-true i.serial c.args.below e) (read.last_item_below c.args.below items) (last_passes (λ (i : Item). nat_lt i.serial c.args.below) None items tt))

use Rattle.std.proofs.Common.{◌≡◌, ◌∙◌, List, ap, ◌<◌, true, rules}
use Rattle.std.specs.Prelude.{nat_lt}
use borrow.Author.Tests.{ltb-true}
use Rattle.gate_types.specs.declared.records.Item.{Item}
use Rattle.gate_types.specs.Tables.{Tables}
use Rattle.gate_book_trait.specs.Reads as read
use Rattle.gate_book_trait.specs.RowReads.{items_named}
use Rattle.gate_book_trait.proofs.ReadingLemmas.{is_read}
use Rattle.gate_book.specs.Memory.{Held}
use Rattle.gate_book_trait.proofs.ReadLemmas.{items_are, found_passes, weaker_if}
use Rattle.gate_book.proofs.MemoryLemmas.{items_in}
use Rattle.std.specs.Option.{option_copied}
use Rattle.gate_memory.specs.Named.{items_found}
use Rattle.gate_book.proofs.memory.MemBookBook.next_item.Goals as goal

pub returns-clause-reads : goal.returns-clause-reads
returns-clause-reads c = is_read (λ _ s x held lawful.
    c.next_item.ensures ∙ ap (read.first_above c.args.above) (ap items_in c.queue_named.ensures.found ∙ ap (λ (t : Tables). items_named t.queues c.args.queue.now) (ap (λ (m : Held). m.tables) (c.self.view_is ∙ held)) ∙ items_are s x c.args.queue.now))
    (search rules) (search rules)

pub returns-clause-rises : goal.returns-clause-rises
returns-clause-rises c =
    let items : List Item = items_found (option_copied c.queue_named.result) in
    rw c.next_item.ensures (weaker_if (λ (i : Item). nat_lt c.args.above i.serial ≡ true) (λ (i : Item). c.args.above < i.serial) (λ i e. ltb-true c.args.above i.serial e) (read.first_above c.args.above items) (found_passes (λ (i : Item). nat_lt c.args.above i.serial) items))

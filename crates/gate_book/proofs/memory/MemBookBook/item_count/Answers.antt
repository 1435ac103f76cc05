use Rattle.std.proofs.Common.{◌∙◌, ap, length, rules}
use Rattle.gate_book_trait.specs.RowReads.{items_named}
use Rattle.gate_book_trait.proofs.ReadLemmas.{items_are}
use Rattle.gate_types.specs.Tables.{Tables}
use Rattle.gate_book_trait.proofs.ReadingLemmas.{is_read}
use Rattle.gate_book.specs.Memory.{Held}
use Rattle.gate_book.proofs.MemoryLemmas.{items_in}
use Rattle.gate_book.proofs.memory.MemBookBook.item_count.Goals as goal

pub returns : goal.returns
returns c = is_read (λ _ s x held lawful.
    let same = ap (λ (m : Held). m.tables) (c.self.view_is ∙ held) in
    let name = c.args.queue.now in
    c.item_count.ensures ∙ ap length (ap items_in c.queue_named.ensures.found ∙ ap (λ (t : Tables). items_named t.queues name) same ∙ items_are s x name))
    (search rules) (search rules)

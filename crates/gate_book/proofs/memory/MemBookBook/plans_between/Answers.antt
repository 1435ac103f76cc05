use Rattle.std.proofs.Common.{◌∙◌, List, ap, rules}
use Rattle.gate_types.specs.declared.records.Item.{Item}
use Rattle.gate_types.specs.Tables.{tables, Tables}
use Rattle.gate_book_trait.specs.Reads as read
use Rattle.gate_book_trait.specs.RowReads.{items_named, plans_of_rows}
use Rattle.gate_book_trait.proofs.ReadLemmas.{items_are}
use Rattle.gate_book_trait.proofs.ReadingLemmas.{is_read}
use Rattle.gate_book.specs.Memory.{Held}
use Rattle.gate_book.proofs.memory.MemBookBook.plans_between.Goals as goal

pub returns : goal.returns
returns c = is_read (λ _ s x held lawful.
    let same = ap (λ (m : Held). m.tables) (c.self.view_is ∙ held) in
    let name = c.args.queue.now in
    let plans : Tables → List Item → _ = λ t items. plans_of_rows t.plans (read.items_between c.args.above c.args.last items) in
    c.in_ok-plans_between.ensures ∙ ap (λ (t : Tables). plans t (items_named t.queues name)) same
    ∙ ap (plans (tables s x)) (items_are s x name))
    (search rules) (search rules)

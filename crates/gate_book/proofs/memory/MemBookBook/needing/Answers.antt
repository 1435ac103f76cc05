use Rattle.std.proofs.Common.{◌∙◌, ap, rules}
use Rattle.gate_types.specs.Tables.{tables, Tables}
use Rattle.gate_book_trait.specs.Reads as read
use Rattle.gate_book_trait.specs.RowReads.{items_named, needing_in}
use Rattle.gate_book_trait.proofs.ReadLemmas.{items_are, needing_are}
use Rattle.gate_book_trait.proofs.ReadingLemmas.{is_read}
use Rattle.gate_book.specs.Memory.{Held}
use Rattle.gate_book.proofs.memory.MemBookBook.needing.Goals as goal

pub returns : goal.returns
returns c = is_read (λ _ s x held lawful.
    let same = ap (λ (m : Held). m.tables) (c.self.view_is ∙ held) in
    let name = c.args.queue.now in
    c.in_ok-needing.ensures
    ∙ ap (λ (t : Tables). needing_in t.changes c.args.change c.args.above (items_named t.queues name)) same
    ∙ ap (needing_in (tables s x).changes c.args.change c.args.above) (items_are s x name)
    ∙ needing_are s x c.args.change c.args.above (read.items_in s x.state name))
    (search rules) (search rules)

use Rattle.std.proofs.Common.{◌∙◌, ap, rules}
use Rattle.gate_types.specs.Tables.{Tables}
use Rattle.gate_book_trait.specs.RowReads.{approval_in}
use Rattle.gate_book_trait.proofs.ReadingLemmas.{is_read}
use Rattle.gate_book.specs.Memory.{Held}
use Rattle.gate_book_trait.proofs.ReadLemmas.{approval_is}
use Rattle.gate_book.proofs.memory.MemBookBook.approval.Goals as goal

pub returns : goal.returns
returns c = is_read (λ _ s x held lawful.
    c.approval.ensures ∙ ap (λ (t : Tables). approval_in t.changes c.args.change) (ap (λ (m : Held). m.tables) (c.self.view_is ∙ held))
    ∙ approval_is s x c.args.change lawful)
    (search rules) (search rules)

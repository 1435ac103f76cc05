use Rattle.std.proofs.Common.{◌∙◌, ap, rules}
use Rattle.gate_types.specs.Tables.{Tables, change_in}
use Rattle.gate_book_trait.proofs.ReadLemmas.{change_is}
use Rattle.gate_book_trait.proofs.ReadingLemmas.{is_read}
use Rattle.gate_book.specs.Memory.{Held}
use Rattle.gate_book.proofs.memory.MemBookBook.change.Goals as goal

pub returns : goal.returns
returns c = is_read (λ _ s x held lawful.
    c.in_ok-change.ensures ∙ ap (λ (t : Tables). change_in t.changes c.args.number) (ap (λ (m : Held). m.tables) (c.self.view_is ∙ held)) ∙ change_is s x c.args.number)
    (search rules) (search rules)

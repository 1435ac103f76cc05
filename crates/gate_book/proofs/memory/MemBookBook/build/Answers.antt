use Rattle.std.proofs.Common.{◌∙◌, ap, rules}
use Rattle.std.specs.Prelude.{◌==◌, find}
use Rattle.gate_types.specs.Tables.{Tables}
use Rattle.gate_book_trait.proofs.ReadingLemmas.{is_read}
use Rattle.gate_book.specs.Memory.{Held}
use Rattle.gate_book.proofs.memory.MemBookBook.build.Goals as goal

pub returns : goal.returns
returns c = is_read (λ _ s x held lawful.
    c.in_ok-build.ensures ∙ ap (λ (t : Tables). find (λ b. b.number == c.args.number) t.builds) (ap (λ (m : Held). m.tables) (c.self.view_is ∙ held)))
    (search rules) (search rules)

use Rattle.std.proofs.Common.{◌∙◌, List, ap, rules}
use Rattle.std.specs.Prelude.{◌==◌, find}
use Rattle.gate_types.specs.Tables.{Tables}
use Rattle.gate_archive.specs.declared.rows.LeftItem.{LeftItem}
use Rattle.gate_book_trait.proofs.ReadingLemmas.{is_read}
use Rattle.gate_book.specs.Memory.{Held}
use Rattle.gate_book.specs.Past.{all_left}
use Rattle.gate_book.proofs.PastLemmas.{left_are}
use Rattle.gate_book.proofs.archive.MemBookArchive.left.Goals as goal

pub returns : goal.returns
returns c = is_read (λ _ s x held lawful.
    c.in_ok-left.ensures
    ∙ ap (λ (ls : List LeftItem). find (λ l. l.report.serial == c.args.serial) ls)
    (ap (λ (t : Tables). all_left t.queues) (ap (λ (m : Held). m.tables) (c.self.view_is ∙ held)) ∙ left_are s x))
    (search rules) (search rules)

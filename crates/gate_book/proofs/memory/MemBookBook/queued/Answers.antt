use Rattle.std.proofs.Common.{◌∙◌, List, ap, rules}
use Rattle.std.specs.Prelude.{◌==◌, find}
use Rattle.gate_types.specs.Tables.{Tables}
use Rattle.gate_book_trait.specs.declared.rows.QueuedItem.{QueuedItem}
use Rattle.gate_book_trait.specs.RowReads.{all_queued}
use Rattle.gate_book_trait.proofs.ReadLemmas.{queued_are}
use Rattle.gate_book_trait.proofs.ReadingLemmas.{is_read}
use Rattle.gate_book.specs.Memory.{Held}
use Rattle.gate_book.proofs.memory.MemBookBook.queued.Goals as goal

pub returns : goal.returns
returns c = is_read (λ _ s x held lawful.
    c.in_ok-queued.ensures
    ∙ ap (λ (ks : List QueuedItem). find (λ k. k.item.change == c.args.change) ks) (ap (λ (t : Tables). all_queued t.queues) (ap (λ (m : Held). m.tables) (c.self.view_is ∙ held)) ∙ queued_are s x))
    (search rules) (search rules)

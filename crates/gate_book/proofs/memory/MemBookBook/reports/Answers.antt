use Rattle.std.proofs.Common.{◌∙◌, ap, length, rules}
use Rattle.std.specs.Option.{option_map_or}
use Rattle.gate_types.specs.Tables.{Tables}
use Rattle.gate_book_trait.specs.RowReads.{rows_named}
use Rattle.gate_book_trait.proofs.ReadLemmas.{reports_are}
use Rattle.gate_book_trait.proofs.ReadingLemmas.{is_read}
use Rattle.gate_book.specs.Memory.{Held}
use Rattle.gate_book.proofs.memory.MemBookBook.reports.Goals as goal

pub returns : goal.returns
returns c = is_read (λ _ s x held lawful.
    c.reports.ensures ∙ ap (λ (t : Tables). option_map_or (λ r. length r.reports) (rows_named t.queues c.args.queue.now) 0) (ap (λ (m : Held). m.tables) (c.self.view_is ∙ held)) ∙ reports_are s x c.args.queue.now)
    (search rules) (search rules)

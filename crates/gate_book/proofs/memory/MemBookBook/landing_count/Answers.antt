use Rattle.std.proofs.Common.{◌∙◌, ap, length, rules}
use Rattle.std.specs.Option.{option_map_or}
use Rattle.gate_book_trait.specs.RowReads.{rows_named}
use Rattle.gate_book_trait.proofs.ReadLemmas.{landing_count_is}
use Rattle.gate_types.specs.Tables.{Tables}
use Rattle.gate_book_trait.proofs.ReadingLemmas.{is_read}
use Rattle.gate_book.specs.Memory.{Held}
use Rattle.gate_book.proofs.memory.MemBookBook.landing_count.Goals as goal

pub returns : goal.returns
returns c = is_read (λ _ s x held lawful.
    let same = ap (λ (m : Held). m.tables) (c.self.view_is ∙ held) in
    let name = c.args.queue.now in
    c.landing_count.ensures ∙ ap (λ (t : Tables). option_map_or (λ r. length r.landings) (rows_named t.queues name) 0) same ∙ landing_count_is s x name)
    (search rules) (search rules)

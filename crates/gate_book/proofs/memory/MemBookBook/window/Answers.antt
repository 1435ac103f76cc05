use Rattle.std.proofs.Common.{◌∙◌, ap, rules}
use Rattle.std.specs.Prelude.{option_map}
use Rattle.gate_book_trait.specs.RowReads.{rows_named}
use Rattle.gate_book_trait.proofs.ReadLemmas.{window_is}
use Rattle.gate_types.specs.Tables.{Tables}
use Rattle.gate_book_trait.proofs.ReadingLemmas.{is_read}
use Rattle.gate_book.specs.Memory.{Held}
use Rattle.gate_book.proofs.memory.MemBookBook.window.Goals as goal

pub returns : goal.returns
returns c = is_read (λ _ s x held lawful.
    let same = ap (λ (m : Held). m.tables) (c.self.view_is ∙ held) in
    let name = c.args.queue.now in
    c.window.ensures ∙ ap (option_map (λ r. r.window)) c.queue_named.ensures.found ∙ ap (λ (t : Tables). option_map (λ r. r.window) (rows_named t.queues name)) same ∙ window_is s x name)
    (search rules) (search rules)

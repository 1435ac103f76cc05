use Rattle.std.proofs.Common.{◌∙◌, ap}
use Rattle.std.specs.Prelude.{◌==◌, find, option_map}
use Rattle.std.proofs.Common.{List}
use Rattle.gate_book_trait.specs.declared.rows.QueuedItem.{QueuedItem}
use Rattle.gate_memory.specs.HeldQueues.{live_queued}
use Rattle.gate_live.specs.Live.{LiveTables}
use Rattle.gate_live.specs.Parts.{Parts}
use Rattle.gate_live.proofs.BookLemmas.{held_is}
use Rattle.gate_live.proofs.ReadLemmas.{live_queued_are}
use Rattle.gate_live.proofs.live.Live.item.Goals as goal

pub returns-in-Some : goal.returns-in-Some
returns-in-Some c k x agrees =
    c.item.ensures
    ∙ ap (λ (l : LiveTables). option_map (λ (m : QueuedItem). m.item) (find (λ m. m.item.serial == c.args.serial) (live_queued l.queues))) (held_is k x c.args.self.now c.self.inside.held _ (ap (λ (p : Parts). p.tables) c.self.view_is) c.in-Some.is agrees)
    ∙ ap (λ (ms : List QueuedItem). option_map (λ (m : QueuedItem). m.item) (find (λ m. m.item.serial == c.args.serial) ms)) (live_queued_are k x)

use Rattle.std.proofs.Common.{◌∙◌, ap}
use Rattle.std.specs.Prelude.{◌==◌, find}
use Rattle.gate_book_trait.specs.declared.rows.QueuedItem.{QueuedItem}
use Rattle.gate_memory.specs.HeldQueues.{live_queued}
use Rattle.gate_live.specs.Live.{LiveTables}
use Rattle.gate_live.specs.Parts.{Parts}
use Rattle.gate_live.proofs.BookLemmas.{held_is}
use Rattle.gate_live.proofs.ReadLemmas.{live_queued_are}
use Rattle.gate_live.proofs.live.Live.queued.Goals as goal

pub returns-in-Ok : goal.returns-in-Ok
returns-in-Ok c k x agrees =
    c.in-Ok.ensures
    ∙ ap (λ (l : LiveTables). find (λ (m : QueuedItem). m.item.change == c.args.change) (live_queued l.queues)) (held_is k x c.args.self.now c.self.inside.held _ (ap (λ (p : Parts). p.tables) c.self.view_is) c.in-Some.is agrees)
    ∙ ap (find (λ (m : QueuedItem). m.item.change == c.args.change)) (live_queued_are k x)

use Rattle.std.proofs.Common.{◌∙◌, ap}
use Rattle.std.specs.Prelude.{option_map}
use Rattle.gate_memory.specs.HeldQueues.{LiveQueue}
use Rattle.gate_live.specs.Live.{LiveTables, live_named}
use Rattle.gate_live.specs.Parts.{Parts}
use Rattle.gate_live.proofs.BookLemmas.{held_is}
use Rattle.gate_live.proofs.ReadLemmas.{live_window}
use Rattle.gate_live.proofs.live.Live.window.Goals as goal

pub returns-in-Some : goal.returns-in-Some
returns-in-Some c k x agrees =
    c.window.ensures ∙ c.table_of.ensures.window
    ∙ ap (λ (l : LiveTables). option_map (λ (m : LiveQueue). m.rows.window) (live_named l.queues c.args.queue.now)) (held_is k x c.args.self.now c.self.inside.held _ (ap (λ (p : Parts). p.tables) c.self.view_is) c.in-Some.is agrees)
    ∙ live_window k x c.args.queue.now

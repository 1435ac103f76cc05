use Rattle.std.proofs.Common.{◌∙◌, ap}
use Rattle.std.specs.Option.{option_map_or}
use Rattle.gate_memory.specs.HeldQueues.{LiveQueue}
use Rattle.gate_live.specs.Live.{LiveTables, live_named}
use Rattle.gate_live.specs.Parts.{Parts}
use Rattle.gate_live.proofs.BookLemmas.{held_is}
use Rattle.gate_live.proofs.ReadLemmas.{live_landings}
use Rattle.gate_live.proofs.live.Live.landing_count.Goals as goal

pub returns-in-Some : goal.returns-in-Some
returns-in-Some c k x agrees =
    c.landing_count.ensures
    ∙ ap (λ (l : LiveTables). option_map_or (λ (m : LiveQueue). m.landings) (live_named l.queues c.args.queue.now) 0) (held_is k x c.args.self.now c.self.inside.held _ (ap (λ (p : Parts). p.tables) c.self.view_is) c.in-Some.is agrees)
    ∙ live_landings k x c.args.queue.now

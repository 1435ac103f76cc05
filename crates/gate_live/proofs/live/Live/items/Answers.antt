use Rattle.std.proofs.Common.{◌∙◌, ap}
use Rattle.gate_live.specs.Live.{LiveTables, live_items}
use Rattle.gate_live.specs.Parts.{Parts}
use Rattle.gate_live.proofs.BookLemmas.{held_is}
use Rattle.gate_live.proofs.ReadLemmas.{live_items_are}
use Rattle.gate_live.proofs.live.Live.items.Goals as goal

pub returns-in-Ok : goal.returns-in-Ok
returns-in-Ok c k x agrees =
    c.in-Ok.ensures ∙ c.table_of.ensures.found
    ∙ ap (λ (l : LiveTables). live_items l.queues c.args.queue.now) (held_is k x c.args.self.now c.self.inside.held _ (ap (λ (p : Parts). p.tables) c.self.view_is) c.in-Some.is agrees)
    ∙ live_items_are k x c.args.queue.now

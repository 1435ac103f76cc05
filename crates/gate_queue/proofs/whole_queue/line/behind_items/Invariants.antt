use Rattle.std.proofs.Common.{◌≡◌, ◌+◌, map, drop}
use Rattle.gate_types.specs.Line.{ran_on, item_entry}
use Rattle.gate_queue.proofs.WholeQueue.FollowLemmas.{GoesOn}
use Rattle.gate_queue.proofs.whole_queue.line.behind_items.Given as goal

abbrev pub invariant-loop-item : goal.invariant-loop-item
invariant-loop-item l =
    (l.n ≡ l.from + l.item-index) ×
    GoesOn (ran_on l.landings l.build) l.from (map item_entry l.ahead) l.n (map item_entry (drop l.item-index l.ahead))

use Rattle.std.proofs.Common.{◌≤◌, ◌+◌, map, drop}
use Rattle.std.specs.Prelude.{filter, nat_lt}
use Rattle.gate_types.specs.Line.{ran_on, landed_entry}
use Rattle.gate_queue.proofs.WholeQueue.FollowLemmas.{GoesOn}
use Rattle.gate_queue.proofs.whole_queue.line.behind_landings.Given as goal

abbrev pub invariant-loop-landing : goal.invariant-loop-landing
invariant-loop-landing l =
    (l.n ≤ l.from + l.landing-index) ×
    GoesOn (ran_on l.landings l.build) l.from (map landed_entry (filter (λ x. nat_lt x.serial l.serial) l.last)) l.n (map landed_entry (filter (λ x. nat_lt x.serial l.serial) (drop l.landing-index l.last)))

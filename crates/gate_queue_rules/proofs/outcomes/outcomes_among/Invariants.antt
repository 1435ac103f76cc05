use Rattle.std.proofs.Common.{◌≡◌, take}
use Rattle.gate_queue_rules.specs.Outcomes.{outcomes_among}
use Rattle.gate_queue_rules.proofs.outcomes.outcomes_among.Given as goal

abbrev pub invariant-loop-build : goal.invariant-loop-build
invariant-loop-build l = l.found.items ≡ outcomes_among (take l.build-index l.builds) l.job

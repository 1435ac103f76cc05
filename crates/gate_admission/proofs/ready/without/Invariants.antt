use Rattle.std.proofs.Common.{◌≡◌, take}
use Rattle.gate_admission.specs.Seen.{ready_without}
use Rattle.gate_admission.proofs.ready.without.Given as goal

abbrev pub invariant-loop-row : goal.invariant-loop-row
invariant-loop-row l = l.found.items ≡ ready_without l.change (take l.row-index l.ready)

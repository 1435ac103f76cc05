use Rattle.std.proofs.Common.{◌≡◌, take}
use Rattle.gate_memory.specs.Needs.{needs_of_all}
use Rattle.gate_memory.proofs.needs.count_needs.Given as goal

abbrev pub invariant-loop-edit : goal.invariant-loop-edit
invariant-loop-edit l = l.count ≡ needs_of_all (take l.edit-index l.edits)

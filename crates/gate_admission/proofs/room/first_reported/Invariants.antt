use Rattle.std.proofs.Common.{◌≡◌, false, take}
use Rattle.std.specs.List.{list_any}
use Rattle.gate_types.specs.State.{State}
use Rattle.gate_admission.specs.Candidates.{makes_room}
use Rattle.gate_admission.proofs.room.first_reported.Given as goal

abbrev pub invariant-loop-edit : goal.invariant-loop-edit
invariant-loop-edit l = (s : State) → list_any (makes_room s) (take l.edit-index l.edits) ≡ false

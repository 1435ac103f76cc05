use Rattle.std.proofs.Common.{◌≡◌, take}
use Rattle.std.specs.Prelude.{filter}
use Rattle.gate_live.specs.HeldChanges.{is_of_changes}
use Rattle.gate_live.proofs.held_changes.change_copies.Given as goal

abbrev pub invariant-loop-edit : goal.invariant-loop-edit
invariant-loop-edit l = l.copies.items ≡ filter is_of_changes (take l.edit-index l.edits)

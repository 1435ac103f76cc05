use Rattle.std.proofs.Common.{◌≡◌, take}
use Rattle.std.specs.Prelude.{filter}
use Rattle.gate_live.specs.Parts.{is_of_items}
use Rattle.gate_live.proofs.items.copies.Given as goal

abbrev pub invariant-loop-edit : goal.invariant-loop-edit
invariant-loop-edit l = l.copies.items ≡ filter is_of_items (take l.edit-index l.edits)

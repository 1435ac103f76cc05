use Rattle.std.proofs.Common.{◌≡◌, drop, fold}
use Rattle.std.specs.Prelude.{option_copied}
use Rattle.gate_admission.specs.Seen.{row_put, last_put}
use Rattle.gate_admission.proofs.known_changes.last_put.Given as goal

abbrev pub invariant-loop-edit : goal.invariant-loop-edit
invariant-loop-edit l =
    fold (row_put l.number) (option_copied l.found) (drop l.edit-index l.edits) ≡ last_put l.number l.edits

use Rattle.std.proofs.Common.{◌≡◌, drop, fold}
use Rattle.gate_admission.specs.Seen.{ready_after}
use Rattle.gate_admission.proofs.ready.after_all.Given as goal

abbrev pub invariant-loop-edit : goal.invariant-loop-edit
invariant-loop-edit l =
    fold ready_after l.ready.items (drop l.edit-index l.edits) ≡ fold ready_after l.fn.ready.items l.edits

use Rattle.std.proofs.Common.{◌≡◌, drop, fold}
use Rattle.gate_admission.specs.Seen.{stage_put, last_stage}
use Rattle.gate_admission.proofs.known_changes.last_stage.Given as goal

abbrev pub invariant-loop-edit : goal.invariant-loop-edit
invariant-loop-edit l = fold (stage_put l.number) l.found (drop l.edit-index l.edits) ≡ last_stage l.number l.edits

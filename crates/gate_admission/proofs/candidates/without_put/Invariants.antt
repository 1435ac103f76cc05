use Rattle.std.proofs.Common.{◌≡◌, not, take, filter}
use Rattle.std.specs.List.{list_any}
use Rattle.gate_admission.specs.Candidates.{puts_or_sets}
use Rattle.gate_admission.proofs.candidates.without_put.Given as goal

abbrev pub invariant-loop-row : goal.invariant-loop-row
invariant-loop-row l =
    l.left.items ≡ filter (λ r. not (list_any (puts_or_sets r.change) l.edits)) (take l.row-index l.rows)

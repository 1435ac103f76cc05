use Rattle.std.proofs.Common.{◌≡◌, ◌++◌, take}
use Rattle.gate_admission.proofs.candidates.with_rows.Given as goal

abbrev pub invariant-loop-row : goal.invariant-loop-row
invariant-loop-row l = l.all.items ≡ l.fn.front.items ++ take l.row-index l.back

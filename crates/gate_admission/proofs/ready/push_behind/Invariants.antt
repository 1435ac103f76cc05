use Rattle.std.proofs.Common.{◌≡◌, ◌++◌, take, filter, not}
use Rattle.std.specs.Prelude.{nat_lt}
use Rattle.gate_admission.proofs.ready.push_behind.Given as goal

abbrev pub invariant-loop-row : goal.invariant-loop-row
invariant-loop-row l =
    l.found.items ≡ l.fn.found.items ++ filter (λ r. not (nat_lt r.approval l.approval)) (take l.row-index l.ready)

use Rattle.std.proofs.Common.{◌≡◌, ◌++◌, take, filter}
use Rattle.std.specs.Prelude.{nat_lt}
use Rattle.gate_admission.proofs.ready.push_before.Given as goal

abbrev pub invariant-loop-row : goal.invariant-loop-row
invariant-loop-row l =
    l.found.items ≡ l.fn.found.items ++ filter (λ r. nat_lt r.approval l.approval) (take l.row-index l.ready)

use Rattle.std.proofs.Common.{◌≡◌, ◌+◌, ◌++◌, length}
use Rattle.gate_settling.specs.Rows.{merged}
use Rattle.gate_settling.proofs.needing.merged.Given as goal

-- those so far, and then what is left of both
abbrev pub invariant-loop-row : goal.invariant-loop-row
invariant-loop-row l = l.all.items ++ merged l.one l.other ≡ merged l.fn.one l.fn.other

abbrev pub decreases-loop-row : goal.decreases-loop-row
decreases-loop-row l = length l.one + length l.other

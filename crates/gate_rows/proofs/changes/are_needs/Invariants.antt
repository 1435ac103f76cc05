use Rattle.std.proofs.Common.{◌≡◌, List, length, map, nat_eq}
use Rattle.gate_schema.specs.Rows.{NeedRow}
use Rattle.gate_schema.specs.Shown.{need_shown}
use Rattle.gate_rows.proofs.changes.are_needs.Given as goal
use lib.Pointwise.{pointwise}

-- the answer is that for what is left
abbrev pub invariant-loop-row : goal.invariant-loop-row
invariant-loop-row l = (found : List NeedRow) → l.fn.rows ≡ map need_shown found → (later : List NeedRow) × (l.rest ≡ map need_shown later)
    × (pointwise nat_eq (map (λ (y : NeedRow). y.needed) found) l.fn.needs ≡ pointwise nat_eq (map (λ (y : NeedRow). y.needed) later) l.left)

abbrev pub decreases-loop-row : goal.decreases-loop-row
decreases-loop-row l = length l.rest

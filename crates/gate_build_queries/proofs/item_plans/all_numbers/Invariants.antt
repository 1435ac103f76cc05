use Rattle.std.proofs.Common.{◌≡◌, ◌≤◌, ℕ, List, map, take, length}
use Rattle.std.specs.Prelude.{vec_len, vec_capacity}
use Rattle.gate_found_rows.specs.Shown.{number_shown}
use Rattle.gate_build_queries.proofs.item_plans.all_numbers.Given as goal

abbrev pub invariant-loop-row : goal.invariant-loop-row
invariant-loop-row l =
    (vec_len l.numbers ≡ l.row-index) × (length l.rows ≤ vec_capacity l.numbers) ×
    ((ns : List ℕ) → l.rows ≡ map number_shown ns → l.numbers.items ≡ take l.row-index ns)

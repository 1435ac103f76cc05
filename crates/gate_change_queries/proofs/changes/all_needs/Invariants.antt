use Rattle.std.proofs.Common.{◌≡◌, ◌≤◌, ℕ, List, map, take, length}
use Rattle.std.specs.List.{AllPass}
use Rattle.std.specs.Prelude.{vec_len, vec_capacity}
use Rattle.gate_found_rows.specs.Shown.{number_shown}
use Rattle.gate_types.specs.Forms.{is_change_number}
use Rattle.gate_change_queries.proofs.changes.all_needs.Given as goal

abbrev pub invariant-loop-row : goal.invariant-loop-row
invariant-loop-row l =
    (vec_len l.needs ≡ l.row-index) × (length l.rows ≤ vec_capacity l.needs) ×
    ((xs : List ℕ) → l.rows ≡ map number_shown xs → AllPass is_change_number xs → l.needs.items ≡ take l.row-index xs)

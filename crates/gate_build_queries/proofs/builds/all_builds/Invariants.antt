use Rattle.std.proofs.Common.{◌≡◌, ◌≤◌, List, map, take, length}
use Rattle.std.specs.List.{AllPass}
use Rattle.std.specs.Prelude.{vec_len, vec_capacity}
use Rattle.gate_types.specs.declared.records.Build.{Build}
use Rattle.gate_schema.specs.Shown.{build_shown}
use Rattle.gate_found_rows.specs.Whole.{is_build_row_in_form}
use Rattle.gate_build_queries.proofs.builds.all_builds.Given as goal

abbrev pub invariant-loop-row : goal.invariant-loop-row
invariant-loop-row l =
    (vec_len l.builds ≡ l.row-index) × (length l.rows ≤ vec_capacity l.builds) ×
    ((xs : List Build) → l.rows ≡ map build_shown xs → AllPass is_build_row_in_form xs → l.builds.items ≡ take l.row-index xs)

use Rattle.std.proofs.Common.{◌≡◌, ◌≤◌, List, map, take, length}
use Rattle.std.specs.List.{AllPass}
use Rattle.std.specs.Prelude.{vec_len, vec_capacity}
use Rattle.gate_types.specs.declared.records.Build.{Build}
use Rattle.gate_archive.specs.ItemText.{summary_of}
use Rattle.gate_found_rows.specs.Whole.{is_build_row_in_form}
use Rattle.gate_archive_queries.specs.Asked.{summary_shown}
use Rattle.gate_archive_queries.proofs.builds.summaries_back.Given as goal

abbrev pub invariant-loop-row : goal.invariant-loop-row
invariant-loop-row l =
    (vec_len l.builds ≡ l.row-index) × (length l.rows ≤ vec_capacity l.builds) ×
    ((xs : List Build) → l.rows ≡ map summary_shown xs → AllPass is_build_row_in_form xs → l.builds.items ≡ map summary_of (take l.row-index xs))

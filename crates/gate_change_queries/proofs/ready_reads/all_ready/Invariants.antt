use Rattle.std.proofs.Common.{◌≡◌, ◌≤◌, List, map, take, length}
use Rattle.std.specs.List.{AllPass}
use Rattle.std.specs.Prelude.{vec_len, vec_capacity}
use Rattle.gate_types.specs.declared.records.Ready.{Ready}
use Rattle.gate_found_rows.specs.Shown.{ready_shown}
use Rattle.gate_types.specs.Forms.{is_ready_in_form}
use Rattle.gate_change_queries.proofs.ready_reads.all_ready.Given as goal

abbrev pub invariant-loop-row : goal.invariant-loop-row
invariant-loop-row l =
    (vec_len l.found ≡ l.row-index) × (length l.rows ≤ vec_capacity l.found) ×
    ((is : List Ready) → l.rows ≡ map ready_shown is → AllPass is_ready_in_form is → l.found.items ≡ take l.row-index is)

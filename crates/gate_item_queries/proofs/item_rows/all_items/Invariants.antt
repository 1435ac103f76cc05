use Rattle.std.proofs.Common.{◌≡◌, ◌≤◌, List, map, take, length}
use Rattle.std.specs.List.{AllPass}
use Rattle.std.specs.Prelude.{vec_len, vec_capacity}
use Rattle.gate_schema.specs.Rows.{ItemRow}
use Rattle.gate_schema.specs.Shown.{item_shown}
use Rattle.gate_found_rows.specs.Whole.{is_item_row_in_form}
use Rattle.gate_item_queries.proofs.item_rows.all_items.Given as goal

abbrev pub invariant-loop-row : goal.invariant-loop-row
invariant-loop-row l =
    (vec_len l.items ≡ l.row-index) × (length l.rows ≤ vec_capacity l.items) ×
    ((is : List ItemRow) → l.rows ≡ map item_shown is → AllPass is_item_row_in_form is → l.items.items ≡ map (λ (i : ItemRow). i.item) (take l.row-index is))

use Rattle.std.proofs.Common.{◌≡◌, List, map, take}
use Rattle.std.specs.List.{AllPass}
use Rattle.gate_schema.specs.Rows.{JobRow}
use Rattle.gate_build_queries.specs.Planned.{plans_of}
use Rattle.gate_found_rows.specs.Shown.{planned_shown}
use Rattle.gate_found_rows.specs.Whole.{is_planned_in_form}
use Rattle.gate_build_queries.proofs.item_plans.all_plans.Given as goal

abbrev pub invariant-loop-row : goal.invariant-loop-row
invariant-loop-row l =
    (xs : List JobRow) → l.rows ≡ map planned_shown xs → AllPass is_planned_in_form xs → l.plans.items ≡ plans_of l.marked (take l.row-index xs)

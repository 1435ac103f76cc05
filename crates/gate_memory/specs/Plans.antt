-- How a book in memory keeps plans: by serial.
use Rattle.std.specs.Prelude.{ℕ, ◌≤◌, ◌+◌, vec_len, vec_capacity}
use Rattle.gate_types.specs.Keys.{serial_of_plan}
use Rattle.gate_types.specs.Rising.{RisesFrom}
use Rattle.gate_memory.specs.declared.plans.PlanTable.{PlanTable}

-- the plans rise by serial
abbrev pub IsKeptPlanTable : PlanTable → Type 0
IsKeptPlanTable t = RisesFrom serial_of_plan 0 t.rows.items

-- room for n more
abbrev pub HasRoomForPlans : ℕ → PlanTable → Type 0
HasRoomForPlans n t = vec_len t.rows + n ≤ vec_capacity t.rows

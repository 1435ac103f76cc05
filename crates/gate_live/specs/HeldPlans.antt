-- Which plans are held in memory: some plans of the book below, each as it is there.
use Rattle.std.specs.Prelude.{ℕ, Bool, ◌==◌, ◌≡◌, if◌then◌else◌, List, find, fold, Some}
use Rattle.std.specs.List.{AllByRecursion}
use Rattle.gate_types.specs.declared.records.Plan.{Plan}
use Rattle.gate_types.specs.declared.edits.Edit.{Edit}
use Rattle.gate_types.specs.declared.edits.Edit.TheVariants as edit
use Rattle.gate_types.specs.State.{put_by}
use Rattle.gate_types.specs.Keys.{serial_of_plan}
use Rattle.gate_memory.specs.Sorted.{without}
use Rattle.gate_memory.specs.Plans as plan_table
use Rattle.gate_live.specs.declared.held_plans.HeldPlans.{HeldPlans}

-- each held plan is the one with its serial among all plans
abbrev pub ArePlansOf : List Plan → List Plan → Type 0
ArePlansOf held plans = AllByRecursion (λ p. find (λ q. q.serial == p.serial) plans ≡ Some p) held

-- ---- what edits make of the held plans, where is_item says whether the item with a serial is held

-- the held plans after a plan is put: it is held only if its item is
abbrev pub put_held_plan : (ℕ → Bool) → List Plan → Plan → List Plan
put_held_plan is_item rows p =
    if is_item p.serial then put_by serial_of_plan p rows else without serial_of_plan p.serial rows

-- the held plans after an edit
abbrev pub edited_held_plans : (ℕ → Bool) → List Plan → Edit → List Plan
edited_held_plans is_item rows (edit.PutPlan p) = put_held_plan is_item rows p
edited_held_plans is_item rows (edit.DropItem s) = without serial_of_plan s rows
edited_held_plans is_item rows (edit.LandItem s) = without serial_of_plan s rows
edited_held_plans is_item rows _ = rows

-- the held plans after a list of edits
abbrev pub fold_held_plans : (ℕ → Bool) → List Plan → List Edit → List Plan
fold_held_plans is_item rows edits = fold (edited_held_plans is_item) rows edits

-- ---- how plans are held

abbrev pub plans_held : HeldPlans → List Plan
plans_held h = h.table.rows.items

-- the table of plans satisfies its invariant
abbrev pub ArePlansKept : HeldPlans → Type 0
ArePlansKept h = plan_table.IsKeptPlanTable h.table

-- there is room for n more plans
abbrev pub HavePlanRoom : ℕ → HeldPlans → Type 0
HavePlanRoom n h = plan_table.HasRoomForPlans n h.table

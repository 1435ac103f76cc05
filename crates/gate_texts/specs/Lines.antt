-- Lines of the status text, by what a book tells.
use Rattle.std.specs.Prelude.{ℕ, Bool, if◌then◌else◌, List, [], ◌∷◌, ◌++◌, map, codes, decimal}
use Rattle.gate_types.specs.declared.config.Job.{Job}
use Rattle.gate_types.specs.declared.records.Build.{Build}
use Rattle.gate_types.specs.declared.records.Item.{Item as ItemRow}
use Rattle.gate_types.specs.declared.records.Slot.{Slot}
use Rattle.gate_types.specs.Columns.{right, left, row, number_or_dash}
use Rattle.gate_types.specs.Slot.{cut_slot}
use Rattle.gate_types.specs.Status.{slot_word}
use Rattle.gate_queue_rules.specs.Outcomes.{slot_among}

-- what a job has come to, by the live builds of the item, and whether it is cut
abbrev pub slot_by : Bool → List Build → Job → Slot
slot_by cut builds j = if cut then cut_slot (slot_among builds j) else slot_among builds j

-- as `unit=success`
abbrev pub job_column_by : Bool → List Build → Job → List ℕ
job_column_by cut builds j = j.name ++ 61 ∷ slot_word (slot_by cut builds j)

-- how an item stands
abbrev pub standing_word_by : Bool → Bool → List ℕ
standing_word_by blocked failing =
    if blocked then codes "blocked" else (if failing then codes "failing" else codes "ok")

-- serial, change, revision, ahead, standing, jobs
abbrev pub item_line : ItemRow → Bool → Bool → List Build → List Job → List ℕ
item_line i blocked cut builds jobs = row (
    right 6 (decimal i.serial) ∷ right 9 (decimal i.change) ∷ right 4 (decimal i.revision) ∷
    right 6 (number_or_dash i.ahead) ∷ left 7 (standing_word_by blocked i.failing) ∷
    map (job_column_by cut builds) jobs)

-- the line of a queue, with its window and how many landings it has
abbrev pub queue_line : List ℕ → ℕ → ℕ → List ℕ
queue_line name window landings =
    row (codes "queue" ∷ name ∷ codes "window" ∷ decimal window ∷ codes "landed" ∷ decimal landings ∷ [])

-- the line of a ready change
abbrev pub waiting_line : ℕ → ℕ → List ℕ
waiting_line change revision = row (codes "waiting" ∷ decimal change ∷ decimal revision ∷ [])

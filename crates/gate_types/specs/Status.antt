-- The status text: queues with their items, then who waits.
use Rattle.std.specs.Prelude.{ℕ, if◌then◌else◌, List, [], ◌∷◌, ◌++◌, map, length, codes, decimal, flat_map}
use Rattle.gate_types.specs.declared.config.Job.{Job}
use Rattle.gate_types.specs.Settings.{Settings}
use Rattle.gate_types.specs.declared.records.Slot.{Slot}
use Rattle.gate_types.specs.declared.records.Build.{Build}
use Rattle.gate_types.specs.declared.records.Slot.TheVariants as slot
use Rattle.gate_types.specs.declared.records.Ready.{Ready}
use Rattle.gate_types.specs.State.{Queue, State, change_of}
use Rattle.gate_types.specs.Line.{Place}
use Rattle.gate_types.specs.Slot.{is_blocked, slot_of}
use Rattle.gate_types.specs.Standing.{is_failing, ahead_of, places}
use Rattle.gate_types.specs.Columns.{right, left, row, number_or_dash}

-- the word of a slot
abbrev pub slot_word : Slot → List ℕ
slot_word slot.Waiting = codes "waiting"
slot_word slot.Running = codes "running"
slot_word slot.Success = codes "success"
slot_word slot.Failure = codes "failure"
slot_word slot.Skipped = codes "skipped"

-- how an item stands
abbrev pub standing_word : List Build → Place → List ℕ
standing_word builds p =
    if is_blocked p then codes "blocked" else (if is_failing builds p then codes "failing" else codes "ok")

-- as `unit=success`
abbrev pub job_column : List Build → Place → Job → List ℕ
job_column builds p j = j.name ++ 61 ∷ slot_word (slot_of builds p j)

-- serial, change, revision, ahead, standing, jobs
abbrev pub item_row : List Build → Place → List ℕ
item_row builds p = row (
    right 6 (decimal p.item.serial) ∷ right 9 (decimal p.item.change) ∷ right 4 (decimal p.item.revision) ∷
    right 6 (number_or_dash (ahead_of p)) ∷ left 7 (standing_word builds p) ∷ map (job_column builds p) p.jobs)

-- the line of a queue
abbrev pub queue_row : Queue → List ℕ
queue_row q =
    row (codes "queue" ∷ q.name ∷ codes "window" ∷ decimal q.window ∷ codes "landed" ∷ decimal (length q.landings) ∷ [])

-- a queue and its items
abbrev pub status_rows : Settings → State → Queue → List ℕ
status_rows c s q = queue_row q ++ flat_map (item_row s.builds) (places c s q)

-- the line of a ready change
abbrev pub waiting_row : State → Ready → List ℕ
waiting_row s r = row (codes "waiting" ∷ decimal r.change ∷ decimal (change_of s r.change).revision ∷ [])

-- the text
abbrev pub status_text : Settings → State → List ℕ
status_text c s = flat_map (status_rows c s) s.queues ++ (flat_map (waiting_row s) s.ready ++ row (codes "end" ∷ []))

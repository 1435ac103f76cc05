-- Admission: ready changes enter their queues.
use Rattle.std.specs.Prelude.{ℕ, Bool, ◌&&◌, not, ◌==◌, nat_lt, ◌+◌, [], ◌∷◌, ◌++◌, filter, fold, length, find}
use Rattle.std.specs.List.{list_any}
use Rattle.std.specs.Option.{option_map_or}
use Rattle.gate_types.specs.Settings.{Settings}
use Rattle.gate_types.specs.Names.{same_name}
use Rattle.gate_types.specs.declared.records.Ready.{Ready}
use Rattle.gate_types.specs.declared.records.Plan.{Plan}
use Rattle.gate_types.specs.State.{Item, Queue, State, change_queue, change_of, project_of, put_plan}
use Rattle.gate_types.specs.Slot.{are_met_by}
use Rattle.gate_types.specs.Standing.{needs_of}
use Rattle.gate_types.specs.Limits.{most_items}

-- a ready change may enter if its queue has room, and each of its needs has landed or is an item of that queue
abbrev pub may_enter : Settings → State → Ready → Bool
may_enter c s r =
    list_any (λ q. same_name q.name (project_of c s r.change).queue && nat_lt (length q.items) most_items &&
    are_met_by q.items (needs_of s r.change)) s.queues

-- a change as an item under the next serial
abbrev pub next_item : State → ℕ → Item
next_item s n = record { serial = s.counters.order + 1; change = n; revision = (change_of s n).revision }

-- what it is admitted with: the jobs of its project now, and whether that fails fast
abbrev pub next_plan : Settings → State → ℕ → Plan
next_plan c s n =
    record {
      serial = s.counters.order + 1;
      jobs = (project_of c s n).jobs;
      fast = (project_of c s n).fail_fast;
    }

-- an item appended to a queue
abbrev pub with_item : Item → Queue → Queue
with_item i q = record q { items = q.items ++ i ∷ [] }

-- a change taken from the ready list
abbrev pub without_ready : ℕ → State → State
without_ready n s = record s { ready = filter (λ r. not (r.change == n)) s.ready }

-- the next serial drawn
abbrev pub draw_order : State → State
draw_order s = record s { counters = record s.counters { order = s.counters.order + 1 } }

-- a ready change appended to its queue, with its plan
abbrev pub entered : Settings → State → Ready → State
entered c s r = draw_order
    (without_ready r.change (put_plan (next_plan c s r.change)
    (change_queue (project_of c s r.change).queue (with_item (next_item s r.change)) s)))

-- the first ready change that may enter enters
abbrev pub admit_one : Settings → State → State
admit_one c s = option_map_or (entered c s) (find (may_enter c s) s.ready) s

-- again and again; as many times as there are ready changes are enough
abbrev pub admit : Settings → State → State
admit c s = fold (λ t _. admit_one c t) s s.ready

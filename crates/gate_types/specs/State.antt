-- The gate's state: lists, each in the order of its key, and the queues in the order of the settings.
use Rattle.std.specs.Prelude.{ℕ, Bool, true, false, ◌==◌, nat_lt, if◌then◌else◌, List, [], ◌∷◌, map, Option}
use Rattle.std.specs.Prelude.{unwrap_or, find}
use Rattle.std.specs.List.{list_any}
use Rattle.gate_types.specs.Names.{same_name}
use Rattle.gate_types.specs.Settings.{Settings}
use Rattle.gate_types.specs.declared.config.Project.{Project}
use Rattle.gate_types.specs.declared.records.Change.{Change}
use Rattle.gate_types.specs.declared.records.Landing.{Landing}
use Rattle.gate_types.specs.declared.records.Need.{Need}
use Rattle.gate_types.specs.declared.records.Plan.{Plan}
use Rattle.gate_types.specs.declared.records.Ready.{Ready}
use Rattle.gate_types.specs.declared.records.Build.{Build}
use Rattle.gate_types.specs.declared.records.Report.{Report}
use Rattle.gate_types.specs.Counters.{Drawn}
use Rattle.gate_types.specs.declared.records.Stage.TheVariants as stage
use Rattle.gate_types.specs.declared.config.Queue.{Queue as QueueSetting}

-- a change in a queue
pub record Item : Type 0 where
  pub serial : ℕ
  pub change : ℕ
  pub revision : ℕ

-- a queue with all that happened in it
pub record Queue : Type 0 where
  pub name : List ℕ
  pub window : ℕ
  pub landings : List Landing
  pub items : List Item
  pub reports : List Report

-- all that the gate knows: each item and each landing has a plan under its serial. What is ahead of an item, and
-- whether it fails, is worked out
pub record State : Type 0 where
  pub changes : List Change
  pub ready : List Ready
  pub queues : List Queue
  pub plans : List Plan
  pub builds : List Build
  pub counters : Drawn

-- a queue before its first change
abbrev pub empty_queue : QueueSetting → Queue
empty_queue q = record { name = q.name; window = q.window; landings = []; items = []; reports = [] }

-- the gate before its first delivery
abbrev pub start : Settings → State
start c = record {
  changes = [];
  ready = [];
  queues = map empty_queue c.queues;
  plans = [];
  builds = [];
  counters = record { approval = 0; build = 0; order = 0 };
}

-- the row of this key replaced, or added in the order of the keys
abbrev pub put_by : {X : Type 0} → (X → ℕ) → X → List X → List X
put_by key x [] = x ∷ []
put_by key x (y ∷ ys) =
    if key x == key y then x ∷ ys else (if nat_lt (key x) (key y) then x ∷ y ∷ ys else y ∷ put_by key x ys)

-- a change recorded, in place of what was known of it
abbrev pub put_change : Change → State → State
put_change k s = record s { changes = put_by (λ j. j.number) k s.changes }

-- the queue of this name changed
abbrev pub change_queue : List ℕ → (Queue → Queue) → State → State
change_queue name f s = record s { queues = map (λ q. if same_name q.name name then f q else q) s.queues }

-- what is known of a change
abbrev pub known_change : State → ℕ → Option Change
known_change s n = find (λ k. k.number == n) s.changes

-- the same, and a closed change of no project where nothing is known
abbrev pub change_of : State → ℕ → Change
change_of s n =
    unwrap_or (known_change s n) (record { number = n; project = []; revision = 0; stage = stage.Closed; needs = [] })

-- a change that is known, or a closed one of no project
abbrev pub known_or_closed : Option Change → Change
known_or_closed k = unwrap_or k (record { number = 0; project = []; revision = 0; stage = stage.Closed; needs = [] })

-- whether a change is open
abbrev pub is_open : Change → Bool
is_open k = elim k.stage [ stage.Open ↦ true | stage.Landed ↦ false | stage.Closed ↦ false ]

-- whether a change has landed
abbrev pub is_landed : Change → Bool
is_landed k = elim k.stage [ stage.Landed ↦ true | stage.Open ↦ false | stage.Closed ↦ false ]

-- a need, with whether it has landed
abbrev pub need_of : State → ℕ → Need
need_of s n = record { change = n; landed = is_landed (change_of s n) }

-- the project of a change, and one without jobs where there is none
abbrev pub project_of : Settings → State → ℕ → Project
project_of c s n =
    unwrap_or (find (λ p. same_name p.name (change_of s n).project) c.projects)
    (record { name = []; queue = []; jobs = []; fail_fast = false })

-- the plan under a serial, and one without jobs where there is none
abbrev pub plan_in : List Plan → ℕ → Plan
plan_in plans n = unwrap_or (find (λ p. p.serial == n) plans) (record { serial = n; jobs = []; fast = false })

-- the plan of the item or the landing of a serial
abbrev pub plan_of : State → ℕ → Plan
plan_of s n = plan_in s.plans n

-- a plan recorded, in place of the one under its serial
abbrev pub put_plan : Plan → State → State
put_plan p s = record s { plans = put_by (λ q. q.serial) p s.plans }

-- whether a change is that of one of some items
abbrev pub has_change : List Item → ℕ → Bool
has_change items n = list_any (λ i. i.change == n) items

-- whether a change stands in a queue
abbrev pub is_queued : State → ℕ → Bool
is_queued s n = list_any (λ q. has_change q.items n) s.queues

-- whether a change is approved and stands in no queue
abbrev pub is_ready : State → ℕ → Bool
is_ready s n = list_any (λ r. r.change == n) s.ready

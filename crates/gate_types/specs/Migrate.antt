-- A state from before there were plans: what it becomes.
use Rattle.std.specs.Prelude.{false, List, [], ◌++◌, map, fold, flat_map}
use Rattle.gate_types.specs.declared.records.Landing.{Landing}
use Rattle.gate_types.specs.declared.records.Plan.{Plan}
use Rattle.gate_types.specs.Settings.{Settings}
use Rattle.gate_types.specs.State.{Item, Queue, State, put_by, project_of}
use Rattle.gate_types.specs.Once.{Content}

-- an item gets the jobs of its change's project, and whether that fails fast
abbrev pub item_plan : Settings → State → Item → Plan
item_plan c s i =
    record { serial = i.serial; jobs = (project_of c s i.change).jobs; fast = (project_of c s i.change).fail_fast }

-- a landing gets the jobs
abbrev pub landing_plan : Settings → State → Landing → Plan
landing_plan c s l = record { serial = l.serial; jobs = (project_of c s l.change).jobs; fast = false }

-- those of a queue
abbrev pub plans_of_queue : Settings → State → Queue → List Plan
plans_of_queue c s q = map (item_plan c s) q.items ++ map (landing_plan c s) q.landings

-- plans put one after another
abbrev pub put_all : List Plan → List Plan → List Plan
put_all plans ps = fold (λ rows p. put_by (λ q. q.serial) p rows) plans ps

-- all else stays
abbrev pub migrated : Settings → State → State
migrated c s = record s { plans = put_all [] (flat_map (plans_of_queue c s) s.queues) }

-- a content, with its kept deliveries
abbrev pub migrated_content : Settings → Content → Content
migrated_content c x = record x { state = migrated c x.state }

-- Short words for the examples: settings, deliveries, what some deliveries give, and the texts that are expected.
use Rattle.std.specs.Prelude.{ℕ, true, false, ◌+◌, List, [], ◌∷◌, ◌++◌, map, replicate, codes, find, flat_map}
use Rattle.std.specs.Option.{option_map_or}
use Rattle.gate_types.specs.declared.config.Job.{Job}
use Rattle.gate_types.specs.declared.config.Queue.{Queue}
use Rattle.gate_types.specs.declared.deliveries.Delivery.{Delivery}
use Rattle.gate_types.specs.declared.deliveries.Delivery.TheVariants as delivery
use Rattle.gate_types.specs.declared.deliveries.Ending.TheVariants as ending
use Rattle.gate_types.specs.Settings.{Settings, default_rule}
use Rattle.gate_types.specs.Names.{same_name}
use Rattle.gate_types.specs.State.{State, start}
use Rattle.gate_types.specs.Step.{build_of}
use Rattle.gate_types.specs.Once.{Content, Call, once, answers, answer_text}
use Rattle.gate_types.specs.BuildText.{build_text}
use Rattle.gate_types.specs.History.{history_text}

-- ---- settings

abbrev pub core : List ℕ
core = codes "core"

abbrev pub lib : List ℕ
lib = codes "lib"

abbrev pub app : List ℕ
app = codes "app"

abbrev pub site : List ℕ
site = codes "site"

-- what stands before a change's number
abbrev pub base : List ℕ
base = codes "https://forge/c/"

-- a job `unit`, which votes
abbrev pub unit : Job
unit = record { name = codes "unit"; voting = true }

-- a job `docs`, which doesn't
abbrev pub docs : Job
docs = record { name = codes "docs"; voting = false }

-- a queue with this window, and the floor 1
abbrev pub queue : List ℕ → ℕ → Queue
queue name window = record { name = name; window = window; floor = 1; rule = default_rule }

-- the queue `core` of `lib` and `app`, with this window, and the queue `web` of `site`
abbrev pub with_window : ℕ → Settings
with_window window = record {
  base = base;
  queues = queue core window ∷ queue (codes "web") 2 ∷ [];
  projects =
      record { name = lib; queue = core; jobs = unit ∷ docs ∷ []; fail_fast = false } ∷
      record { name = app; queue = core; jobs = unit ∷ []; fail_fast = false } ∷
      record { name = site; queue = codes "web"; jobs = unit ∷ []; fail_fast = false } ∷ [];
}

-- the same with the window 2
abbrev pub settings : Settings
settings = with_window 2

-- the queue `core` alone
abbrev pub core_alone : Settings
core_alone = record {
  base = base;
  queues = queue core 2 ∷ [];
  projects =
      record { name = lib; queue = core; jobs = unit ∷ docs ∷ []; fail_fast = false } ∷
      record { name = app; queue = core; jobs = unit ∷ []; fail_fast = false } ∷ [];
}

-- ---- deliveries

-- the first revision of a change
abbrev pub opened : ℕ → List ℕ → Delivery
opened n project = delivery.Revision n project 1 []

-- the same with a message
abbrev pub opened_with : List ℕ → ℕ → List ℕ → Delivery
opened_with message n project = delivery.Revision n project 1 message

-- a footer that names a change by its digits
abbrev pub depends_on : List ℕ → List ℕ
depends_on digits = codes "Depends-On: https://forge/c/" ++ digits

-- the first revision of a change that needs the one of these digits
abbrev pub opened_needing : List ℕ → ℕ → List ℕ → Delivery
opened_needing digits = opened_with (depends_on digits)

-- a change approved at revision 1
abbrev pub approved : ℕ → Delivery
approved n = delivery.Approved n 1

-- and withdrawn
abbrev pub withdrawn : ℕ → Delivery
withdrawn n = delivery.Withdrawn n 1

-- a worker asks for a build
abbrev pub take : Delivery
take = delivery.Take (codes "w1")

-- a build ended with success
abbrev pub passed : ℕ → Delivery
passed n = delivery.Result n ending.Success

-- with failure
abbrev pub failed : ℕ → Delivery
failed n = delivery.Result n ending.Failure

-- without telling
abbrev pub lost : ℕ → Delivery
lost n = delivery.Result n ending.Lost

-- ---- what they give

-- a delivery under an id
abbrev pub under : ℕ → Delivery → Call
under id d = record { id = record { 0 = replicate 15 0 ++ id ∷ [] }; delivery = d; unavailable = false }

-- each under an id of its own
abbrev pub numbered : ℕ → List Delivery → List Call
numbered id [] = []
numbered id (d ∷ ds) = under id d ∷ numbered (id + 1) ds

-- a state with nothing kept
abbrev pub at : State → Content
at s = record { state = s; kept = [] }

-- the texts of the answers to calls
abbrev pub texts : Settings → Content → List Call → List (List ℕ)
texts c x calls = map answer_text (answers c x calls)

-- the texts of the answers to deliveries
abbrev pub replies_to : Settings → State → List Delivery → List (List ℕ)
replies_to c s ds = texts c (at s) (numbered 1 ds)

-- the state after deliveries
abbrev pub after : Settings → State → List Delivery → State
after c s ds = (once c (at s) (numbered 1 ds)).state

-- the same from the empty gate
abbrev pub begun : Settings → List Delivery → State
begun c = after c (start c)

-- the text of a build
abbrev pub shown_build : State → ℕ → List ℕ
shown_build s n = option_map_or build_text (build_of s n) []

-- the history of the queue `core`
abbrev pub core_history : State → List ℕ
core_history s = option_map_or history_text (find (λ q. same_name q.name core) s.queues) []

-- ---- expected texts

-- lines, each ended by LF
abbrev pub lines : List (List ℕ) → List ℕ
lines ls = flat_map (λ l. l ++ 10 ∷ []) ls

abbrev pub recorded : List ℕ
recorded = codes "{\"reply\":\"recorded\"}"

abbrev pub stale : List ℕ
stale = codes "{\"reply\":\"stale\"}"

abbrev pub waiting : List ℕ
waiting = codes "{\"reply\":\"waiting\"}"

abbrev pub already : List ℕ
already = codes "{\"reply\":\"already\"}"

abbrev pub removed : List ℕ
removed = codes "{\"reply\":\"removed\"}"

abbrev pub noted : List ℕ
noted = codes "{\"reply\":\"noted\"}"

-- under an order of these digits
abbrev pub queued : List ℕ → List ℕ
queued digits = codes "{\"order\":" ++ (digits ++ codes ",\"reply\":\"queued\"}")

-- as the landing of these digits
abbrev pub landed_as : List ℕ → List ℕ
landed_as digits = codes "{\"n\":" ++ (digits ++ codes ",\"reply\":\"landed\"}")

abbrev pub unknown_change : List ℕ
unknown_change = codes "{\"code\":\"E5\",\"error\":\"unknown-change\"}"

abbrev pub id_reused : List ℕ
id_reused = codes "{\"code\":\"E4\",\"error\":\"id-reused\"}"

abbrev pub submitting : List ℕ
submitting = codes "{\"code\":\"E9\",\"error\":\"submitting\"}"

abbrev pub no_order : List ℕ
no_order = codes "{\"code\":\"E10\",\"error\":\"no-order\"}"

abbrev pub idle : List ℕ
idle = codes "{\"code\":\"E12\",\"error\":\"idle\"}"

abbrev pub too_many_needs : List ℕ
too_many_needs = codes "{\"code\":\"E13\",\"error\":\"too-many-needs\"}"

abbrev pub exhausted : List ℕ
exhausted = codes "{\"code\":\"E14\",\"error\":\"exhausted\"}"

abbrev pub unavailable : List ℕ
unavailable = codes "{\"code\":\"E15\",\"error\":\"unavailable\"}"

-- the first build of `unit` of 101, on nothing
abbrev pub build_1 : List ℕ
build_1 = codes "{\"after\":0,\"ahead\":[],\"build\":1,\"change\":101,\"job\":\"unit\",\"queue\":\"core\",\"reply\":\"build\",\"revision\":1}"

-- the second, of `docs`
abbrev pub build_2 : List ℕ
build_2 = codes "{\"after\":0,\"ahead\":[],\"build\":2,\"change\":101,\"job\":\"docs\",\"queue\":\"core\",\"reply\":\"build\",\"revision\":1}"

-- the third, of `unit` of 102, behind 101
abbrev pub build_3 : List ℕ
build_3 = codes "{\"after\":0,\"ahead\":[[101,1]],\"build\":3,\"change\":102,\"job\":\"unit\",\"queue\":\"core\",\"reply\":\"build\",\"revision\":1}"

-- the fourth, of `unit` of 102, without 101
abbrev pub build_4 : List ℕ
build_4 = codes "{\"after\":0,\"ahead\":[],\"build\":4,\"change\":102,\"job\":\"unit\",\"queue\":\"core\",\"reply\":\"build\",\"revision\":1}"

-- The settings that a text says at its members, whatever stands beside them.
use Rattle.std.specs.Prelude.{◌≡◌, ℕ, Bool, false, nat_le, List, [], ◌∷◌, codes, Option, Some, None}
use Rattle.std.specs.Prelude.{option_and_then, option_map, Result, Ok, Err, ⊤}
use Rattle.serde_json.specs.Data.{Data, Items, no_items, item}
use Rattle.serde_json.specs.Find.{get, as_number, as_u64, as_str, as_bool, as_array}
use Rattle.gate_types.specs.declared.config.Job.{Job}
use Rattle.gate_types.specs.declared.config.Queue.{Queue}
use Rattle.gate_types.specs.declared.config.Project.{Project}
use Rattle.gate_types.specs.declared.config.Pace.{Pace}
use Rattle.gate_types.specs.declared.config.WindowRule.{WindowRule}
use Rattle.gate_types.specs.declared.config.Pace.TheVariants as pace
use Rattle.gate_types.specs.Names.{is_name, is_path_name, is_base}
use Rattle.gate_types.specs.Limits.{most_window}
use Rattle.gate_types.specs.Settings.{Settings, is_factor, pace_named, are_sound}
use Rattle.gate_types.specs.Reading.{passing, text_at, value_of, whole_at}
use Rattle.gate_kept_settings.specs.declared.fault.TextFault.{TextFault}
use Rattle.gate_kept_settings.specs.declared.fault.TextFault.TheVariants as fault

-- a value, and then the next one
infixl 10 ◌>>=◌
abbrev pub ◌>>=◌ : {A B : Type 0} → Option A → (A → Option B) → Option B
o >>= f = option_and_then f o

-- a call gives what is said, seen by view, unless memory was refused
abbrev pub GivesKept : {X Y : Type 0} → (X → Y) → Result X TextFault → Option Y → Type 0
GivesKept view (Ok x) said = said ≡ Some (view x)
GivesKept view (Err fault.NotSettings) said = said ≡ None
GivesKept view (Err fault.NoMemory) said = ⊤

-- the values of an array
abbrev pub list_of : Items → List Data
list_of no_items = []
list_of (item d ds) = d ∷ list_of ds

-- what all of some values say, or nothing
abbrev pub each : {A X : Type 0} → (A → Option X) → List A → Option (List X)
each f [] = Some []
each f (d ∷ ds) = f d >>= λ x. option_map (λ xs. x ∷ xs) (each f ds)

-- the truth value of a member
abbrev pub truth_at : List ℕ → Data → Option Bool
truth_at key d = get key d >>= as_bool

-- its values
abbrev pub list_at : List ℕ → Data → Option (List Data)
list_at key d = option_map list_of (get key d >>= as_array)

-- the name of a queue or a job
unfoldable pub name_at : List ℕ → Data → Option (List ℕ)
name_at key d = text_at key d >>= passing is_name

-- the name of a project
unfoldable pub path_name_at : List ℕ → Data → Option (List ℕ)
path_name_at key d = text_at key d >>= passing is_path_name

-- the base
unfoldable pub base_at : List ℕ → Data → Option (List ℕ)
base_at key d = text_at key d >>= passing is_base

-- a number of items, up to the largest window
unfoldable pub number_at : List ℕ → Data → Option ℕ
number_at key d = whole_at key d >>= passing (λ n. nat_le n most_window)

-- what a member says, or the default where it isn't there
abbrev pub said_or : {X : Type 0} → X → (Data → Option X) → Option Data → Option X
said_or default says None = Some default
said_or default says (Some d) = says d

-- a pace, or the default
unfoldable pub pace_at : Pace → List ℕ → Data → Option Pace
pace_at default key d = said_or default (λ e. as_str e >>= pace_named) (get key d)

-- what a window changes by, or the default
unfoldable pub factor_at : ℕ → List ℕ → Data → Option ℕ
factor_at default key d = said_or default (λ e. as_number e >>= as_u64 >>= passing is_factor) (get key d)

-- a truth value, or `false`
unfoldable pub flag_at : List ℕ → Data → Option Bool
flag_at key d = said_or false as_bool (get key d)

-- a job
unfoldable pub job_at : Data → Option Job
job_at d =
    name_at (codes "name") d >>= λ name. truth_at (codes "voting") d >>= λ voting.
    Some (record { name = name; voting = voting })

-- the rule of a queue's window, each part of it the default where it isn't there
unfoldable pub rule_at : Data → Option WindowRule
rule_at d =
    pace_at pace.Linear (codes "increase") d >>= λ increase. factor_at 1 (codes "increase_by") d >>= λ increase_by.
    pace_at pace.Exponential (codes "decrease") d >>= λ decrease. factor_at 2 (codes "decrease_by") d >>= λ decrease_by.
    Some (record { increase = increase; increase_by = increase_by; decrease = decrease; decrease_by = decrease_by })

-- a queue
unfoldable pub queue_at : Data → Option Queue
queue_at d =
    name_at (codes "name") d >>= λ name. number_at (codes "window") d >>= λ window.
    number_at (codes "floor") d >>= λ floor. rule_at d >>= λ rule.
    Some (record { name = name; window = window; floor = floor; rule = rule })

-- a project
unfoldable pub project_at : Data → Option Project
project_at d =
    path_name_at (codes "name") d >>= λ name. name_at (codes "queue") d >>= λ queue.
    list_at (codes "jobs") d >>= each job_at >>= λ jobs. flag_at (codes "fail_fast") d >>= λ fail_fast.
    Some (record { name = name; queue = queue; jobs = jobs; fail_fast = fail_fast })

-- the settings, if they are sound
unfoldable pub settings_at : Data → Option Settings
settings_at d =
    base_at (codes "base") d >>= λ base. list_at (codes "queues") d >>= each queue_at >>= λ queues.
    list_at (codes "projects") d >>= each project_at >>= λ projects.
    passing are_sound (record { base = base; queues = queues; projects = projects })

-- the settings that bytes say
abbrev pub kept_said_by : List ℕ → Option Settings
kept_said_by bytes = value_of bytes >>= settings_at

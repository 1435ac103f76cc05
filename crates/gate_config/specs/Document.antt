-- What a document says at a place, and what stands for it where nothing of the kind is there.
use Rattle.std.specs.Prelude.{ℕ, ℤ, pos, negsuc, codes, List, [], ◌∷◌, map, Bool, true, false, Option, Some, None}
use Rattle.std.specs.Prelude.{unwrap_or, option_and_then}
use Rattle.std.specs.Option.{option_map_or}
use Rattle.toml.specs.Data.{Data, Items, no_items, item, get, as_str, as_integer, as_bool, as_array}
use Rattle.gate_types.specs.Settings.{Settings, pace_named}
use Rattle.gate_types.specs.declared.config.Job.{Job}
use Rattle.gate_types.specs.declared.config.Pace.{Pace}
use Rattle.gate_types.specs.declared.config.Pace.TheVariants as pace
use Rattle.gate_types.specs.declared.config.WindowRule.{WindowRule}
use Rattle.gate_types.specs.declared.config.Queue.{Queue}
use Rattle.gate_types.specs.declared.config.Project.{Project}

-- the values of an array
abbrev pub values_in : Items → List Data
values_in no_items = []
values_in (item d ds) = d ∷ values_in ds

-- the values of the array at a key, or none
abbrev pub items_at : List ℕ → Data → List Data
items_at key d = option_map_or values_in (option_and_then as_array (get key d)) []

-- the queues and projects of a document, and the jobs of a project
abbrev pub queues_of : Data → List Data
queues_of d = items_at (codes "queue") d

abbrev pub projects_of : Data → List Data
projects_of d = items_at (codes "project") d

abbrev pub jobs_of : Data → List Data
jobs_of p = items_at (codes "job") p

-- the text at a key, or the empty one
abbrev pub text_or_empty : List ℕ → Data → List ℕ
text_or_empty key d = unwrap_or (option_and_then as_str (get key d)) []

-- the name of a queue, a project or a job
abbrev pub name_of : Data → List ℕ
name_of d = text_or_empty (codes "name") d

-- the queue that a project names
abbrev pub queue_named_by : Data → List ℕ
queue_named_by p = text_or_empty (codes "queue") p

-- the base of a document
abbrev pub base_of : Data → List ℕ
base_of d = option_map_or (text_or_empty (codes "base")) (get (codes "forge") d) []

-- a whole number, unless it is negative
abbrev pub natural : ℤ → Option ℕ
natural (pos n) = Some n
natural (negsuc n) = None

-- the whole number at a key, or the default where it is left out
abbrev pub number_or_default : List ℕ → ℕ → Data → Option ℕ
number_or_default key default d = option_map_or natural (option_and_then as_integer (get key d)) (Some default)

-- the window and the floor of a queue
abbrev pub said_window : Data → Option ℕ
said_window q = number_or_default (codes "window") 20 q

abbrev pub said_floor : Data → Option ℕ
said_floor q = number_or_default (codes "floor") 3 q

-- the pace at a key, or the default where it is left out
abbrev pub pace_or_default : List ℕ → Pace → Data → Option Pace
pace_or_default key default d = option_map_or pace_named (option_and_then as_str (get key d)) (Some default)

-- how the window of a queue grows, and by what
abbrev pub said_increase : Data → Option Pace
said_increase q = pace_or_default (codes "increase") pace.Linear q

abbrev pub said_increase_by : Data → Option ℕ
said_increase_by q = number_or_default (codes "increase_by") 1 q

-- how it shrinks, and by what
abbrev pub said_decrease : Data → Option Pace
said_decrease q = pace_or_default (codes "decrease") pace.Exponential q

abbrev pub said_decrease_by : Data → Option ℕ
said_decrease_by q = number_or_default (codes "decrease_by") 2 q

-- the rule of a queue
abbrev pub said_rule : Data → WindowRule
said_rule q = record {
  increase = unwrap_or (said_increase q) pace.Linear;
  increase_by = unwrap_or (said_increase_by q) 0;
  decrease = unwrap_or (said_decrease q) pace.Linear;
  decrease_by = unwrap_or (said_decrease_by q) 0;
}

-- whether a project is to fail fast, which it isn't unless it says so
abbrev pub is_fast : Data → Bool
is_fast p = unwrap_or (option_and_then as_bool (get (codes "fail_fast") p)) false

-- whether a job votes, which it does unless it says otherwise
abbrev pub is_voting : Data → Bool
is_voting j = unwrap_or (option_and_then as_bool (get (codes "voting") j)) true

-- the settings of a queue
abbrev pub said_queue : Data → Queue
said_queue q = record {
  name = name_of q;
  window = unwrap_or (said_window q) 0;
  floor = unwrap_or (said_floor q) 0;
  rule = said_rule q;
}

-- the settings of a job
abbrev pub said_job : Data → Job
said_job j = record { name = name_of j; voting = is_voting j }

-- the settings of a project
abbrev pub said_project : Data → Project
said_project p =
    record { name = name_of p; queue = queue_named_by p; jobs = map said_job (jobs_of p); fail_fast = is_fast p }

-- the settings that a document says, lists in its order
abbrev pub said_settings : Data → Settings
said_settings d =
    record { base = base_of d; queues = map said_queue (queues_of d); projects = map said_project (projects_of d) }

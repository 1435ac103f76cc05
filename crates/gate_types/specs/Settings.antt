-- The settings, and the tests that sound ones pass.
use Rattle.std.specs.Prelude.{ℕ, Bool, true, false, ◌&&◌, ◌||◌, not, ◌==◌, nat_le, if◌then◌else◌, List, [], ◌∷◌, map}
use Rattle.std.specs.Prelude.{length, codes, Option, Some, None}
use Rattle.std.specs.List.{list_any, list_all}
use Rattle.gate_types.specs.Names.{same_name}
use Rattle.gate_types.specs.Limits.{most_queues, most_projects, most_jobs, most_window, most_factor}
use Rattle.gate_types.specs.declared.config.Job.{Job}
use Rattle.gate_types.specs.declared.config.Queue.{Queue}
use Rattle.gate_types.specs.declared.config.Project.{Project}
use Rattle.gate_types.specs.declared.config.Pace.{Pace}
use Rattle.gate_types.specs.declared.config.WindowRule.{WindowRule}
use Rattle.gate_types.specs.declared.config.Pace.TheVariants as pace

-- what a settings file says
pub record Settings : Type 0 where
  pub base : List ℕ
  pub queues : List Queue
  pub projects : List Project

-- the word of a pace
abbrev pub pace_word : Pace → List ℕ
pace_word pace.Linear = codes "linear"
pace_word pace.Exponential = codes "exponential"

-- the pace of a word, if it is one
abbrev pub pace_named : List ℕ → Option Pace
pace_named word =
    if same_name word (codes "linear") then Some pace.Linear
    else if same_name word (codes "exponential") then Some pace.Exponential
    else None

-- whether a window changes by a number of items
abbrev pub is_linear : Pace → Bool
is_linear pace.Linear = true
is_linear pace.Exponential = false

-- the rule of a queue that says nothing of it: one more for a landing, half for a failure
abbrev pub default_rule : WindowRule
default_rule = record { increase = pace.Linear; increase_by = 1; decrease = pace.Exponential; decrease_by = 2 }

-- no name stands twice
abbrev pub are_distinct : List (List ℕ) → Bool
are_distinct [] = true
are_distinct (n ∷ ns) = not (list_any (same_name n) ns) && are_distinct ns

-- a queue of this name is there
abbrev pub has_queue : List Queue → List ℕ → Bool
has_queue queues name = list_any (λ q. same_name q.name name) queues

-- what a window changes by: 1 to 1,000
abbrev pub is_factor : ℕ → Bool
is_factor n = nat_le 1 n && nat_le n most_factor

-- the numbers of a rule
abbrev pub is_sound_rule : WindowRule → Bool
is_sound_rule r = is_factor r.increase_by && is_factor r.decrease_by

-- a window up to 1,000, over a floor of 1 to 1,000; the window 0 has no bound
abbrev pub is_window_over : ℕ → ℕ → Bool
is_window_over window floor =
    nat_le window most_window && nat_le 1 floor && nat_le floor most_window && (window == 0 || nat_le floor window)

-- the numbers of a queue
abbrev pub is_sound_window : Queue → Bool
is_sound_window q = is_window_over q.window q.floor && is_sound_rule q.rule

-- up to 32 jobs of different names, one of them voting
abbrev pub are_sound_jobs : List Job → Bool
are_sound_jobs jobs =
    nat_le (length jobs) most_jobs && are_distinct (map (λ j. j.name) jobs) && list_any (λ j. j.voting) jobs

-- a project in one of these queues, with such jobs
abbrev pub is_sound_project : List Queue → Project → Bool
is_sound_project queues p = has_queue queues p.queue && are_sound_jobs p.jobs

-- 1 to 32 queues and 1 to 256 projects, of different names, each project in a queue that is there
abbrev pub are_sound : Settings → Bool
are_sound s =
    nat_le 1 (length s.queues) && nat_le (length s.queues) most_queues && nat_le 1 (length s.projects) &&
    nat_le (length s.projects) most_projects &&
    are_distinct (map (λ q. q.name) s.queues) && are_distinct (map (λ p. p.name) s.projects) &&
    list_all is_sound_window s.queues && list_all (λ p. is_sound_project s.queues p) s.projects

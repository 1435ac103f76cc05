-- What names, windows, jobs and numbers of things have to be.
use Rattle.std.specs.Prelude.{ℕ, List, map, length, Bool, ◌&&◌, ◌||◌, not, nat_le, nat_lt, is_none}
use Rattle.std.specs.List.{list_any}
use Rattle.toml.specs.Data.{Data}
use Rattle.gate_types.specs.Names.{is_name, is_path_name, is_base, same_name}
use Rattle.gate_types.specs.Limits.{most_queues, most_projects, most_jobs}
use Rattle.gate_types.specs.Settings.{are_distinct, is_sound_window}
use Rattle.gate_config.specs.Document.{queues_of, projects_of, jobs_of, name_of, queue_named_by, base_of, said_window}
use Rattle.gate_config.specs.Document.{said_floor, said_increase, said_decrease, is_voting, said_queue}

-- a name of a queue or a job that isn't of its form
abbrev pub has_bad_name : Data → Bool
has_bad_name d = not (is_name (name_of d))

-- the same of a project, or of one of its jobs
abbrev pub has_bad_name_in_project : Data → Bool
has_bad_name_in_project p = not (is_path_name (name_of p)) || list_any has_bad_name (jobs_of p)

-- the base or a name isn't of its form; the queue that a project names is looked for among the queues instead
abbrev pub has_bad_name_anywhere : Data → Bool
has_bad_name_anywhere d =
    not (is_base (base_of d)) || list_any has_bad_name (queues_of d) || list_any has_bad_name_in_project (projects_of d)

-- a name that stands twice
abbrev pub has_double : List Data → Bool
has_double ds = not (are_distinct (map name_of ds))

-- two queues, two projects, or two jobs of one project have one name
abbrev pub has_double_name : Data → Bool
has_double_name d =
    has_double (queues_of d) || has_double (projects_of d) || list_any (λ p. has_double (jobs_of p)) (projects_of d)

-- one of these has the name
abbrev pub has_named : List ℕ → List Data → Bool
has_named name ds = list_any (λ d. same_name (name_of d) name) ds

-- a project that names no queue of the document
abbrev pub names_no_queue : Data → Bool
names_no_queue d = list_any (λ p. not (has_named (queue_named_by p) (queues_of d))) (projects_of d)

-- the window or the floor is negative or out of its range, the floor is above a window that isn't 0, or how the window
-- changes is no word for it or by a number out of its range
abbrev pub is_bad_window : Data → Bool
is_bad_window q =
    is_none (said_window q) || is_none (said_floor q) || is_none (said_increase q) || is_none (said_decrease q) ||
    not (is_sound_window (said_queue q))

abbrev pub has_bad_window : Data → Bool
has_bad_window d = list_any is_bad_window (queues_of d)

-- a queue that has no settings
abbrev pub is_bad_queue : Data → Bool
is_bad_queue q = has_bad_name q || is_bad_window q

-- a project that has none
abbrev pub is_bad_project : Data → Bool
is_bad_project p = has_bad_name_in_project p || not (is_name (queue_named_by p))

-- a project of which no job votes
abbrev pub has_no_voting_job : Data → Bool
has_no_voting_job d = list_any (λ p. not (list_any is_voting (jobs_of p))) (projects_of d)

-- one of these, or more, and at most so many
abbrev pub are_some_up_to : ℕ → List Data → Bool
are_some_up_to most ds = nat_le 1 (length ds) && nat_le (length ds) most

abbrev pub has_too_many_jobs : Data → Bool
has_too_many_jobs p = nat_lt most_jobs (length (jobs_of p))

-- too few or too many queues or projects, or too many jobs in a project
abbrev pub is_beyond_limits : Data → Bool
is_beyond_limits d =
    not (are_some_up_to most_queues (queues_of d)) || not (are_some_up_to most_projects (projects_of d)) ||
    list_any has_too_many_jobs (projects_of d)

-- How much settings may ask for, and how much a gate holds and tells.
use Rattle.std.specs.Prelude.{ℕ}

-- how many queues, projects, and jobs of a project there may be
abbrev pub most_queues : ℕ
most_queues = 32

abbrev pub most_projects : ℕ
most_projects = 256

abbrev pub most_jobs : ℕ
most_jobs = 32

-- the largest window, and the largest floor of one
abbrev pub most_window : ℕ
most_window = 1000

-- the most that a window changes by
abbrev pub most_factor : ℕ
most_factor = 1000

-- the most items of a queue
abbrev pub most_items : ℕ
most_items = 1000

-- the most changes that one revision needs
abbrev pub most_needs : ℕ
most_needs = 32

-- the most reports, deliveries or builds that one answer lists
abbrev pub most_listed : ℕ
most_listed = 1000

-- the tries of a job: it has failed when so many of its builds are lost
abbrev pub most_tries : ℕ
most_tries = 3

-- the most bytes of a delivery: of a line without its LF, or of a body
abbrev pub most_bytes : ℕ
most_bytes = 65536

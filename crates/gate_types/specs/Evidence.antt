-- What each landing shows.
use Rattle.std.specs.Prelude.{ℕ, Bool, true, false, ◌&&◌, ◌||◌, not, ◌==◌, ◌+◌, List, [], ◌∷◌, map, filter, take}
use Rattle.std.specs.Prelude.{slice_get, IsTrue}
use Rattle.std.specs.List.{list_all}
use Rattle.std.specs.Option.{option_map_or}
use Rattle.gate_types.specs.declared.records.Entry.{Entry}
use Rattle.gate_types.specs.declared.config.Job.{Job}
use Rattle.gate_types.specs.Settings.{Settings}
use Rattle.gate_types.specs.declared.records.Landing.{Landing}
use Rattle.gate_types.specs.declared.records.Build.{Build}
use Rattle.gate_types.specs.Names.{same_name}
use Rattle.gate_types.specs.State.{Queue, State, plan_of}
use Rattle.gate_types.specs.Line.{landed_entry, same_entries, ran_on}
use Rattle.gate_types.specs.Slot.{is_success}

-- the live successful builds of a job under a serial
abbrev pub passed_builds : List Build → ℕ → Job → List Build
passed_builds builds serial job =
    filter (λ b. b.live && is_success b.outcome && b.serial == serial && same_name b.job job.name) builds

-- there is just one build, and it ran on these
abbrev pub is_one_on : List Landing → List Entry → List Build → Bool
is_one_on landings on (b ∷ []) = same_entries (ran_on landings b) on
is_one_on landings on _ = false

-- each voting job of a landing's plan has passed just once, on the first n landings
abbrev pub has_evidence : Settings → State → Queue → ℕ → Landing → Bool
has_evidence c s q n l =
    list_all (λ j. not j.voting ||
    is_one_on q.landings (map landed_entry (take n q.landings)) (passed_builds s.builds l.serial j))
    (plan_of s l.serial).jobs

-- the landing at a place, from 0, is shown: its builds ran on the landings before it, then itself
abbrev pub IsShown : Settings → State → Queue → ℕ → Type 0
IsShown c s q k = IsTrue (option_map_or (has_evidence c s q (k + 1)) (slice_get q.landings k) true)

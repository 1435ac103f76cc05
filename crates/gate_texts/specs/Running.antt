-- The builds that run, told one after another.
use Rattle.std.specs.Prelude.{ℕ, ◌≡◌, nat_lt, if◌then◌else◌, List, [], map, filter, length, take, flat_map}
use Rattle.std.specs.Prelude.{string_bytes}
use Rattle.gate_types.specs.declared.records.Build.{Build}
use Rattle.gate_types.specs.State.{Queue, State}
use Rattle.gate_types.specs.Slot.{is_running}
use Rattle.gate_types.specs.JsonText.{Piece, joined}
use Rattle.gate_archive.specs.RunningBuilds.{running_of, running_piece, running_object}
use Rattle.gate_texts.specs.Listed.{with_entry}
use Rattle.gate_texts.specs.Values.{bracketed}
use Rattle.gate_texts.specs.declared.running.Running.{Running}
use Rattle.gate_types.specs.Limits.{most_listed}

-- those that run
abbrev pub running_among : List Build → List Build
running_among builds = filter (λ b. is_running b.outcome) builds

-- those of the items of a queue
abbrev pub running_in : State → Queue → List Build
running_in s q = flat_map (λ i. running_of s i.serial) q.items

-- these builds were told: the first 1,000 stand in the list, and all are counted
pub record OfBuilds (r : Running) (builds : List Build) : Type 0 where
  pub list : string_bytes r.list ≡ joined (map running_piece (take most_listed builds)) []
  pub count : r.count ≡ length builds

-- a list with one more, unless this many were told before
abbrev pub listed_with : ℕ → List ℕ → List ℕ → List ℕ
listed_with count list entry = if nat_lt count most_listed then with_entry list entry else list

-- the list, and how many there are
abbrev pub running_told : List ℕ → ℕ → Piece
running_told list count = running_object (bracketed list) count

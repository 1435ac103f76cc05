-- Which build of a queue is due.
use Rattle.std.specs.Prelude.{ℕ, Bool, ◌&&◌, ◌||◌, not, ◌==◌, ◌≡◌, ◌+◌, if◌then◌else◌, List, [], ◌∷◌, map, slice_get}
use Rattle.std.specs.Prelude.{find, Option, Some, None, option_map, option_and_then}
use Rattle.std.specs.List.{AllPass, list_all, position}
use Rattle.std.specs.List.Sorted.{IsStrictlyIncreasing}
use Rattle.gate_types.specs.declared.records.Item.{Item as ItemRow}
use Rattle.gate_types.specs.declared.records.Build.{Build}
use Rattle.gate_types.specs.Settings.{Settings}
use Rattle.gate_types.specs.State.{Queue, State}
use Rattle.gate_types.specs.Line.{Place}
use Rattle.gate_types.specs.Slot.{is_blocked, counts, slot_of, is_waiting_slot}
use Rattle.gate_types.specs.Standing.{places}
use Rattle.gate_types.specs.Window.{within_window}
use Rattle.gate_types.specs.Choice.{build_for, choices}
use Rattle.gate_queue.specs.declared.whole_queue.facts.ItemJobs.{ItemJobs}

-- the index of the first waiting job of an item, unless it is blocked
abbrev pub first_waiting : List Build → Place → Option ℕ
first_waiting builds p = if is_blocked p then None else position (λ j. is_waiting_slot (slot_of builds p j)) p.jobs

-- the serial of the first of these items that has one, and that job's index
abbrev pub first_choice : List Build → List Place → Option (ℕ × ℕ)
first_choice builds [] = None
first_choice builds (p ∷ ps) =
    elim (first_waiting builds p) [ Some j ↦ Some (p.item.serial, j) | None ↦ first_choice builds ps ]

-- items and jobs tell of the places: their serials, their jobs, whether they are blocked and are to fail fast
abbrev pub TellOf : List Place → List ItemRow → List ItemJobs → Type 0
TellOf [] [] [] = Unit {0}
TellOf (p ∷ ps) (i ∷ items) (j ∷ jobs) =
    (p.item.serial ≡ i.serial) × (p.jobs ≡ j.jobs.now) × (is_blocked p ≡ j.blocked) × (p.fast ≡ j.fast) ×
    TellOf ps items jobs
TellOf _ _ _ = ⊥

-- each live build of the item counts
abbrev pub live_builds_count : List Build → Place → Bool
live_builds_count builds p = list_all (λ b. not (b.live && b.serial == p.item.serial) || counts p b) builds

-- the choice is the first one, of all places of which items and jobs tell, if each live build counts
pub record Chooses (items : List ItemRow) (builds : List Build) (window : ℕ) (jobs : List ItemJobs)
    (choice : Option (ℕ × ℕ)) : Type 0 where
  pub first : (ps : List Place) → TellOf ps items jobs → AllPass (live_builds_count builds) ps →
      choice ≡ first_choice builds (within_window window ps)

-- the build of a choice
abbrev pub build_of_choice : State → Queue → List Place → ℕ × ℕ → Option Build
build_of_choice s q ps choice =
    let build : Place → Option Build =
    λ p. option_map (build_for (s.counters.build + 1) q p) (slice_get p.jobs choice.1) in
    option_and_then build (find (λ p. p.item.serial == choice.0) ps)

-- the first choice is that of the build that a worker is given first in a queue
abbrev pub FirstChoiceIsGiven : Type 0
FirstChoiceIsGiven = (c : Settings) (s : State) (q : Queue) → IsStrictlyIncreasing (map (λ i. i.serial) q.items) →
    let ps = places c s q in
    slice_get (choices c s q) 0
    ≡ option_and_then (build_of_choice s q ps) (first_choice s.builds (within_window q.window ps))

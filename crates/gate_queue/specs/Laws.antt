-- What a rebase and a sweep leave alone.
use Rattle.std.specs.Prelude.{ℕ, ◌&&◌, ◌||◌, not, ◌≡◌, List, [], ◌∷◌, ◌++◌, map, fold, is_some}
use Rattle.std.specs.Prelude.{filter_map, find}
use Rattle.std.specs.Option.{option_map_or}
use Rattle.std.specs.List.{All, AllPass, list_any}
use Rattle.std.specs.List.Sorted.{IsStrictlyIncreasing}
use Rattle.gate_types.specs.declared.config.Job.{Job}
use Rattle.gate_types.specs.declared.records.Build.{Build}
use Rattle.gate_types.specs.declared.records.Report.{Report}
use Rattle.gate_types.specs.Settings.{Settings}
use Rattle.gate_types.specs.State.{Queue, State}
use Rattle.gate_types.specs.Line.{Place}
use Rattle.gate_types.specs.Slot.{is_blocked, is_failed_slot, is_cut, slot_of}
use Rattle.gate_types.specs.Standing.{is_failing, places, all_places}
use Rattle.gate_types.specs.Rebase.{rebase}
use Rattle.gate_types.specs.Window.{Bounds}
use Rattle.gate_types.specs.Sweep.{Judged, judged, goes, next_window, report_on}
use Rattle.gate_queue_rules.specs.Settled.{verdicts, swept_builds, staying_places}

-- a rebase changes what is ahead of no item, no slot, no failing mark, and cuts no other item
pub record RebaseKeepsMarks : Type 0 where
  pub places : (c : Settings) (s : State) → all_places c (rebase c s) ≡ all_places c s
  pub slots : (c : Settings) (s : State) →
      All (λ p. (j : Job) → slot_of (rebase c s).builds p j ≡ slot_of s.builds p j) (all_places c s)
  pub marks : (c : Settings) (s : State) →
      All (λ p. is_failing (rebase c s).builds p ≡ is_failing s.builds p) (all_places c s)
  pub cuts : (c : Settings) (s : State) → All (λ p. is_cut (rebase c s).builds p ≡ is_cut s.builds p) (all_places c s)

-- an item is failing by its slots just where it is by what its builds have come to
abbrev pub SlotsTellFailing : Type 0
SlotsTellFailing = (builds : List Build) (p : Place) →
    is_failing builds p ≡ is_blocked p || list_any (λ j. j.voting && is_failed_slot (slot_of builds p j)) p.jobs

-- no item that goes is ahead of another
abbrev pub WhatGoesStandsInNoLine : Type 0
WhatGoesStandsInNoLine = (c : Settings) (s : State) (q : Queue) → IsStrictlyIncreasing (map (λ i. i.serial) q.items) →
    All (λ p. AllPass (λ i. not (goes (judged c s q) i.serial)) p.ahead) (places c s q)

-- a queue while items are taken out: the places of those that are there, before what is ahead is known
pub record Scan : Type 0 where
  pub window : ℕ
  pub places : List Place
  pub builds : List Build
  pub reports : List Report

-- all items that go are taken out by one look at the queue
abbrev pub swept_at_once : Bounds → Scan → Scan
swept_at_once bounds q = record {
  window = fold (next_window bounds) q.window (verdicts q.places q.builds);
  places = staying_places (verdicts q.places q.builds) q.places;
  builds = swept_builds (verdicts q.places q.builds) q.builds;
  reports = q.reports ++ filter_map report_on (verdicts q.places q.builds);
}

-- one item is taken out
abbrev pub one_taken_out : Bounds → Scan → Judged → Scan
one_taken_out bounds q j = record {
  window = next_window bounds q.window j;
  places = staying_places (j ∷ []) q.places;
  builds = swept_builds (j ∷ []) q.builds;
  reports = q.reports ++ filter_map report_on (j ∷ []);
}

-- the first item that goes is taken out, by a new look at the queue
abbrev pub one_out : Bounds → Scan → Scan
one_out bounds q = option_map_or (one_taken_out bounds q) (find (λ j. is_some j.verdict) (verdicts q.places q.builds)) q

-- one after another; as many times as there are items are enough
abbrev pub all_out : Bounds → Scan → Scan
all_out bounds q = fold (λ t _. one_out bounds t) q q.places

-- one sweep is the same as removal one by one with a new look between
abbrev pub OneSweepIsOneByOne : Type 0
OneSweepIsOneByOne = (bounds : Bounds) (q : Scan) → IsStrictlyIncreasing (map (λ p. p.item.serial) q.places) →
    all_out bounds q ≡ swept_at_once bounds q

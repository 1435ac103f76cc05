-- What a cut item skips: its jobs have failed as their builds have, and all have finished.
use Rattle.std.proofs.Common.{◌≡◌, Bool, true, false, not, ◌&&◌, ◌||◌, cond, List, [], ◌∷◌, refl, ap, ◌∙◌}
use Rattle.std.specs.List.{list_all}
use Rattle.std.proofs.lemmas.Bool.{and_right, or_parts}
use Rattle.gate_types.specs.declared.records.Build.{Build}
use Rattle.gate_types.specs.declared.records.Slot.{Slot}
use Rattle.gate_types.specs.declared.records.Slot.TheVariants as slot
use Rattle.gate_types.specs.Line.{Place}
use Rattle.gate_types.specs.Slot.{is_blocked, is_failed_slot, is_waiting_slot, is_finished, raw_slot_of, has_failure}
use Rattle.gate_types.specs.Slot.{is_cut, cut_slot}
use Rattle.gate_types.specs.Standing.{is_failing, are_finished}

-- ---- one slot

pub failed_cut : (t : Bool) (x : Slot) → is_failed_slot (cond t (cut_slot x) x) ≡ is_failed_slot x
failed_cut false x = refl
failed_cut true slot.Waiting = refl
failed_cut true slot.Running = refl
failed_cut true slot.Success = refl
failed_cut true slot.Failure = refl
failed_cut true slot.Skipped = refl

pub finished_cut : (t : Bool) (x : Slot) → is_finished (cond t (cut_slot x) x) ≡ t || is_finished x
finished_cut false x = refl
finished_cut true slot.Waiting = refl
finished_cut true slot.Running = refl
finished_cut true slot.Success = refl
finished_cut true slot.Failure = refl
finished_cut true slot.Skipped = refl

pub waiting_cut : (t : Bool) (x : Slot) → is_waiting_slot (cond t (cut_slot x) x) ≡ not t && is_waiting_slot x
waiting_cut false x = refl
waiting_cut true slot.Waiting = refl
waiting_cut true slot.Running = refl
waiting_cut true slot.Success = refl
waiting_cut true slot.Failure = refl
waiting_cut true slot.Skipped = refl

-- ---- an item

-- one that isn't failing isn't cut
pub uncut : (bs : List Build) (p : Place) → is_failing bs p ≡ false → is_cut bs p ≡ false
uncut bs p h = and_right (p.fast && not (is_blocked p)) (has_failure bs p) (or_parts (is_blocked p) (has_failure bs p) h).1

-- one has finished where it is cut, or its builds have
pub finished_is : (bs : List Build) (p : Place) →
    are_finished bs p ≡ is_cut bs p || list_all (λ j. is_finished (raw_slot_of bs p j)) p.jobs
finished_is bs p =
    ap (λ f. list_all f p.jobs) (λ k j. finished_cut (is_cut bs p) (raw_slot_of bs p j) k)
    ∙ all_or (is_cut bs p) (λ j. is_finished (raw_slot_of bs p j)) p.jobs
  where
    on : {X : Type 0} (f : X → Bool) (xs : List X) → list_all (λ x. true || f x) xs ≡ true
    on f [] = refl
    on f (x ∷ xs) = on f xs

    all_or : {X : Type 0} (t : Bool) (f : X → Bool) (xs : List X) → list_all (λ x. t || f x) xs ≡ t || list_all f xs
    all_or true f xs = on f xs
    all_or false f xs = refl

-- The first choice of a queue is the build that is given first.
use Rattle.std.proofs.Common.{◌≡◌, ℕ, zero, suc, ◌+◌, ◌<◌, ◌≤◌, Bool, true, false, cond, Option, Some, None, List, []}
use Rattle.std.proofs.Common.{◌∷◌, ◌++◌, map, take, drop, refl, sym, ap, ◌∙◌, arith, add-one}
use Rattle.std.specs.Prelude.{filter, find, ◌==◌, slice_get, option_map, option_and_then}
use Rattle.std.specs.List.{position, position_from, flat_map}
use Rattle.std.proofs.lemmas.Bool.{eq-eqb, ne_eqb}
use Rattle.std.proofs.lemmas.Iterator.Adapters.{position_from-zero}
use Rattle.std.proofs.lemmas.List.Concat.{flat_map-cons}
use Rattle.gate_types.specs.declared.config.Job.{Job}
use Rattle.gate_types.specs.declared.records.Build.{Build}
use Rattle.gate_types.specs.State.{Item, Queue, State}
use Rattle.gate_types.specs.Line.{Place}
use Rattle.gate_types.specs.Slot.{is_blocked, slot_of, is_waiting_slot}
use Rattle.gate_types.specs.Standing.{places, place_of}
use Rattle.gate_types.specs.Choice.{build_for, builds_for}
use Rattle.gate_types.specs.Rising.{RisesFrom}
use Rattle.gate_queue.specs.WholeQueue.Chooses.{first_choice, build_of_choice, FirstChoiceIsGiven}
use Rattle.gate_queue_rules.proofs.Ordered.{rises, ahead_rise, items_rise}
use Rattle.gate_laws.proofs.LiveBuildsCount.{place_serial}

get_drop : {X : Type 0} (xs : List X) (n : ℕ) → slice_get (drop n xs) 0 ≡ slice_get xs n
get_drop [] zero = refl
get_drop [] (suc n) = refl
get_drop (x ∷ xs) zero = refl
get_drop (x ∷ xs) (suc n) = get_drop xs n

drop_drop : {X : Type 0} (xs : List X) (n : ℕ) → drop 1 (drop n xs) ≡ drop (suc n) xs
drop_drop [] zero = refl
drop_drop [] (suc n) = refl
drop_drop (x ∷ xs) zero = refl
drop_drop (x ∷ xs) (suc n) = drop_drop xs n

-- the first job that a test keeps
first_from : (g : Job → Build) (t : Job → Bool) (all xs : List Job) (n : ℕ) (rest : List Build) → drop n all ≡ xs →
    slice_get (map g (filter t xs) ++ rest) 0 ≡ elim (position_from t n xs) [ Some j ↦ option_map g (slice_get all j) | None ↦ slice_get rest 0 ]
first_from g t all [] n rest e = refl
first_from g t all (x ∷ xs) n rest e =
    by_test (t x) (first_from g t all xs (n + 1) rest (ap (λ m. drop m all) (add-one n) ∙ sym (drop_drop all n) ∙ ap (drop 1) e))
  where
    by_test : (b : Bool) → slice_get (map g (filter t xs) ++ rest) 0 ≡ elim (position_from t (n + 1) xs) [ Some j ↦ option_map g (slice_get all j) | None ↦ slice_get rest 0 ] →
        slice_get (map g (cond b (x ∷ filter t xs) (filter t xs)) ++ rest) 0 ≡ elim (cond b (Some n) (position_from t (n + 1) xs)) [ Some j ↦ option_map g (slice_get all j) | None ↦ slice_get rest 0 ]
    by_test true h = ap (option_map g) (sym (sym (get_drop all n) ∙ ap (λ l. slice_get l 0) e))
    by_test false h = h

-- each place is found by its serial
abbrev Found : List Place → List Place → Type 0
Found all [] = Unit {0}
Found all (p ∷ ps) = (find (λ x. x.item.serial == p.item.serial) all ≡ Some p) × Found all ps

found_more : (p : Place) (n : ℕ) (all ps : List Place) → p.item.serial < n → RisesFrom place_serial n ps → Found all ps → Found (p ∷ all) ps
found_more p n all [] l r f = tt
found_more p n all (x ∷ ps) l r f =
    let from : n ≤ x.item.serial = r.0 in (
      ap (λ t. cond t (Some p) (find (λ y. y.item.serial == x.item.serial) all)) (ne_eqb p.item.serial x.item.serial (λ e. omega (arith, e))) ∙ f.0,
      found_more p (suc x.item.serial) all ps (omega arith) r.1 f.1,
    )

found_all : (n : ℕ) (ps : List Place) → RisesFrom place_serial n ps → Found ps ps
found_all n [] r = tt
found_all n (p ∷ ps) r = (
  ap (λ t. cond t (Some p) (find (λ y. y.item.serial == p.item.serial) ps)) (eq-eqb p.item.serial p.item.serial refl),
  found_more p (suc p.item.serial) ps ps (omega arith) r.1 (found_all (suc p.item.serial) ps r.1),
)

found_taken : (w : ℕ) (all ps : List Place) → Found all ps → Found all (take w ps)
found_taken zero all ps f = tt
found_taken (suc w) all [] f = tt
found_taken (suc w) all (p ∷ ps) f = (f.0, found_taken w all ps f.1)

given_first : (s : State) (q : Queue) (all ps : List Place) → Found all ps → slice_get (flat_map (builds_for s q) ps) 0 ≡ option_and_then (build_of_choice s q all) (first_choice s.builds ps)
given_first s q all [] f = refl
given_first s q all (p ∷ ps) f =
    ap (λ l. slice_get l 0) (flat_map-cons (builds_for s q) p ps) ∙ by_blocked (is_blocked p) (given_first s q all ps f.1)
  where
    by_option : (o : Option ℕ) → slice_get (flat_map (builds_for s q) ps) 0 ≡ option_and_then (build_of_choice s q all) (first_choice s.builds ps) →
        elim o [ Some j ↦ option_map (build_for (s.counters.build + 1) q p) (slice_get p.jobs j) | None ↦ slice_get (flat_map (builds_for s q) ps) 0 ]
        ≡ option_and_then (build_of_choice s q all) (elim o [ Some j ↦ Some (p.item.serial, j) | None ↦ first_choice s.builds ps ])
    by_option None h = h
    by_option (Some j) h = ap (option_and_then (λ (x : Place). option_map (build_for (s.counters.build + 1) q x) (slice_get x.jobs j))) (sym f.0)

    by_blocked : (b : Bool) → slice_get (flat_map (builds_for s q) ps) 0 ≡ option_and_then (build_of_choice s q all) (first_choice s.builds ps) →
        slice_get (cond b [] (map (build_for (s.counters.build + 1) q p) (filter (λ j. is_waiting_slot (slot_of s.builds p j)) p.jobs)) ++ flat_map (builds_for s q) ps) 0
        ≡ option_and_then (build_of_choice s q all) (elim (cond b None (position (λ j. is_waiting_slot (slot_of s.builds p j)) p.jobs)) [ Some j ↦ Some (p.item.serial, j) | None ↦ first_choice s.builds ps ])
    by_blocked true h = h
    by_blocked false h =
        first_from (build_for (s.counters.build + 1) q p) (λ j. is_waiting_slot (slot_of s.builds p j)) p.jobs p.jobs 0 (flat_map (builds_for s q) ps) refl
        ∙ by_option (position_from (λ j. is_waiting_slot (slot_of s.builds p j)) 0 p.jobs) h
        ∙ ap (λ (o : Option ℕ). option_and_then (build_of_choice s q all) (elim o [ Some j ↦ Some (p.item.serial, j) | None ↦ first_choice s.builds ps ])) (sym (position_from-zero (λ j. is_waiting_slot (slot_of s.builds p j)) p.jobs))

pub the_first_choice_is_given : FirstChoiceIsGiven
the_first_choice_is_given c s q r =
    let ps = places c s q in
    let found = found_all 0 ps (ahead_rise s.builds 0 [] (map (place_of c s q) q.items) (items_rise c s q q.items 0 (rises (λ (i : Item). i.serial) q.items r))) in
    by_bound s q ps found (q.window == 0)
  where
    by_bound : (s : State) (q : Queue) (ps : List Place) → Found ps ps → (b : Bool) →
        slice_get (flat_map (builds_for s q) (cond b ps (take q.window ps))) 0 ≡ option_and_then (build_of_choice s q ps) (first_choice s.builds (cond b ps (take q.window ps)))
    by_bound s q ps f true = given_first s q ps ps f
    by_bound s q ps f false = given_first s q ps (take q.window ps) (found_taken q.window ps ps f)

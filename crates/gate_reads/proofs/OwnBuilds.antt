-- What the jobs of an item have come to, by its live builds alone: in a settled state each of them counts.
use Rattle.std.proofs.Common.{◌≡◌, ◌+◌, Bool, true, false, not, ◌&&◌, ◌||◌, cond, Some, None, List, [], ◌∷◌, map}
use Rattle.std.proofs.Common.{refl, sym, ap, ◌∙◌}
use Rattle.std.specs.Prelude.{◌==◌, filter, find, slice_get, option_map}
use Rattle.std.specs.List.{list_all, AllPass}
use Rattle.std.proofs.lemmas.List.Elements.{All-tail, All-head}
use Rattle.gate_types.specs.declared.config.Job.{Job}
use Rattle.gate_types.specs.declared.records.Build.{Build}
use Rattle.gate_types.specs.declared.records.Outcome.{Outcome}
use Rattle.gate_types.specs.Names.{same_name}
use Rattle.gate_types.specs.Settings.{Settings}
use Rattle.gate_types.specs.State.{Queue, State}
use Rattle.gate_types.specs.Line.{Place, same_entries, line, ran_on}
use Rattle.gate_types.specs.Slot.{is_blocked, counts, outcomes_of, slot_of_outcomes, raw_slot_of, has_failure, is_cut}
use Rattle.gate_types.specs.Slot.{cut_slot, slot_of, is_waiting_slot, is_finished}
use Rattle.gate_types.specs.Standing.{is_failing, are_finished, all_places}
use Rattle.gate_types.specs.Choice.{build_for, builds_for}
use Rattle.gate_types.specs.Lawful.{IsLawful}
use Rattle.gate_types.specs.Rising.{In}
use Rattle.gate_laws.proofs.Members.{every}
use Rattle.gate_laws.proofs.LiveBuildsCount.{live_builds_count}
use Rattle.gate_laws.proofs.Cuts.{uncut, finished_is, waiting_cut}
use Rattle.gate_book_trait.specs.Reads.{live_builds}
use Rattle.gate_queue_rules.specs.Outcomes.{outcomes_among, slot_among}

-- whether a build is a live one of an item
abbrev is_own : Place → Build → Bool
is_own p b = b.live && b.serial == p.item.serial

-- each live build of the item counts
abbrev pub AllCount : List Build → Place → Type 0
AllCount builds p = AllPass (λ b. not (is_own p b) || counts p b) builds

pub all_count : (c : Settings) (s : State) → IsLawful c s → (p : Place) → In p (all_places c s) → AllCount s.builds p
all_count c s h p m =
    every (AllCount s.builds) (all_places c s) (live_builds_count c s h.settled h.sound.serials_differ) p m

counts_is : (o n q : Bool) → not o || (o && n && q) ≡ true → (o && n && q) ≡ o
counts_is false n q h = refl
counts_is true true true h = refl
counts_is true true false h = h
counts_is true false q h = h

own_outcomes : (p : Place) (job : Job) (bs : List Build) → AllCount bs p →
    outcomes_among (filter (is_own p) bs) job ≡ outcomes_of bs p job
own_outcomes p job [] h = refl
own_outcomes p job (b ∷ bs) h =
    by_own (is_own p b) (own_outcomes p job bs (All-tail (λ x. not (is_own p x) || counts p x ≡ true) b bs h))
    ∙ ap (λ t. outcomes (cond (of_job b && t) (b ∷ counting) counting))
    (sym (counts_is (is_own p b) (not (is_blocked p))
    (same_entries (ran_on p.landings b) (line p)) (All-head (λ x. not (is_own p x) || counts p x ≡ true) b bs h)))
  where
    of_job : Build → Bool
    of_job x = same_name x.job job.name

    outcomes : List Build → List Outcome
    outcomes xs = map (λ x. x.outcome) xs

    counting : List Build
    counting = filter (λ x. of_job x && counts p x) bs

    by_job : (m : Bool) (xs ys : List Build) → outcomes xs ≡ outcomes ys →
        outcomes (cond m (b ∷ xs) xs) ≡ outcomes (cond (m && true) (b ∷ ys) ys)
    by_job true xs ys r = ap (λ os. b.outcome ∷ os) r
    by_job false xs ys r = r

    not_job : (m : Bool) (ys : List Build) → outcomes ys ≡ outcomes (cond (m && false) (b ∷ ys) ys)
    not_job true ys = refl
    not_job false ys = refl

    by_own : (o : Bool) → outcomes (filter of_job (filter (is_own p) bs)) ≡ outcomes counting →
        outcomes (filter of_job (cond o (b ∷ filter (is_own p) bs) (filter (is_own p) bs)))
        ≡ outcomes (cond (of_job b && o) (b ∷ counting) counting)
    by_own true r = by_job (of_job b) (filter of_job (filter (is_own p) bs)) counting r
    by_own false r = r ∙ not_job (of_job b) counting

pub slots_are : (s : State) (p : Place) (builds : List Build) (job : Job) → builds ≡ live_builds s p.item.serial →
    AllCount s.builds p →
    slot_among builds job ≡ raw_slot_of s.builds p job
slots_are s p builds job e h = ap (λ bs. slot_among bs job) e ∙ ap slot_of_outcomes (own_outcomes p job s.builds h)

-- whether each job has ended, of an item that isn't failing
pub ended_is : (s : State) (p : Place) (builds : List Build) (jobs : List Job) → builds ≡ live_builds s p.item.serial →
    jobs ≡ p.jobs → AllCount s.builds p → is_failing s.builds p ≡ false →
    list_all (λ j. is_finished (slot_among builds j)) jobs ≡ are_finished s.builds p
ended_is s p builds jobs eb ej h fine =
    (λ k. list_all (λ j. is_finished (slots_are s p builds j eb h k)) (ej k))
    ∙ sym (finished_is s.builds p
    ∙ ap (λ t. t || list_all (λ j. is_finished (raw_slot_of s.builds p j)) p.jobs) (uncut s.builds p fine))

-- the first waiting job of an item that isn't cut
waiting_is : (s : State) (p : Place) (builds : List Build) (jobs : List Job) → builds ≡ live_builds s p.item.serial →
    jobs ≡ p.jobs → AllCount s.builds p → is_cut s.builds p ≡ false →
    find (λ j. is_waiting_slot (slot_among builds j)) jobs ≡ find (λ j. is_waiting_slot (slot_of s.builds p j)) p.jobs
waiting_is s p builds jobs eb ej h e =
    (λ k. find (λ j. is_waiting_slot (slots_are s p builds j eb h k)) (ej k))
    ∙ (λ k. find (λ j. is_waiting_slot (cond (sym e k) (cut_slot (raw_slot_of s.builds p j)) (raw_slot_of s.builds p j)))
    p.jobs)

-- a cut item has none
none_waits : (s : State) (p : Place) (jobs : List Job) → is_cut s.builds p ≡ true →
    find (λ j. is_waiting_slot (slot_of s.builds p j)) jobs ≡ None
none_waits s p jobs e =
    (λ k. find (λ j. waiting_cut (is_cut s.builds p) (raw_slot_of s.builds p j) k) jobs)
    ∙ (λ k. find (λ j. not (e k) && is_waiting_slot (raw_slot_of s.builds p j)) jobs) ∙ along jobs
  where
    along : (js : List Job) → find (λ (j : Job). false) js ≡ None
    along [] = refl
    along (j ∷ js) = along js

first_kept : {X Y : Type 0} (f : X → Y) (t : X → Bool) (xs : List X) →
    slice_get (map f (filter t xs)) 0 ≡ option_map f (find t xs)
first_kept f t [] = refl
first_kept f t (x ∷ xs) = by_test (t x) (first_kept f t xs)
  where
    by_test : (b : Bool) → slice_get (map f (filter t xs)) 0 ≡ option_map f (find t xs) →
        slice_get (map f (cond b (x ∷ filter t xs) (filter t xs))) 0 ≡ option_map f (cond b (Some x) (find t xs))
    by_test true h = refl
    by_test false h = h

-- the builds that might start of an item, once it is known whether it is blocked
abbrev builds_if : State → Queue → Place → Bool → List Build
builds_if s q p blocked = cond blocked [] (map (build_for (s.counters.build + 1) q p)
    (filter (λ j. is_waiting_slot (slot_of s.builds p j)) p.jobs))

-- a blocked item has no build that is due
pub blocked_none : (s : State) (q : Queue) (p : Place) → is_blocked p ≡ true → slice_get (builds_for s q p) 0 ≡ None
blocked_none s q p e = ap (λ t. slice_get (builds_if s q p t) 0) e

-- nor has a cut one
pub cut_none : (s : State) (q : Queue) (p : Place) → is_cut s.builds p ≡ true → slice_get (builds_for s q p) 0 ≡ None
cut_none s q p e = by_blocked (is_blocked p)
  where
    by_blocked : (t : Bool) → slice_get (builds_if s q p t) 0 ≡ None
    by_blocked true = refl
    by_blocked false =
        first_kept (build_for (s.counters.build + 1) q p) (λ j. is_waiting_slot (slot_of s.builds p j)) p.jobs
        ∙ ap (option_map (build_for (s.counters.build + 1) q p)) (none_waits s p p.jobs e)

-- an item that isn't blocked is cut where it fails and is to fail fast
pub cut_is : (bs : List Build) (p : Place) → is_blocked p ≡ false → p.fast && is_failing bs p ≡ is_cut bs p
cut_is bs p e =
    ap (λ t. p.fast && (t || has_failure bs p)) e ∙ by_fast p.fast
    ∙ ap (λ t. p.fast && not t && has_failure bs p) (sym e)
  where
    by_fast : (f : Bool) → f && has_failure bs p ≡ (f && true && has_failure bs p)
    by_fast true = refl
    by_fast false = refl

-- another has that of its first waiting job
pub first_due : (s : State) (q : Queue) (p : Place) (builds : List Build) (jobs : List Job) →
    builds ≡ live_builds s p.item.serial → jobs ≡ p.jobs → AllCount s.builds p → is_blocked p ≡ false →
    is_cut s.builds p ≡ false →
    slice_get (builds_for s q p) 0 ≡ option_map (build_for (s.counters.build + 1) q p)
    (find (λ j. is_waiting_slot (slot_among builds j)) jobs)
first_due s q p builds jobs eb ej h e u =
    ap (λ t. slice_get (builds_if s q p t) 0) e
    ∙ first_kept (build_for (s.counters.build + 1) q p) (λ j. is_waiting_slot (slot_of s.builds p j)) p.jobs
    ∙ ap (option_map (build_for (s.counters.build + 1) q p)) (sym (waiting_is s p builds jobs eb ej h u))

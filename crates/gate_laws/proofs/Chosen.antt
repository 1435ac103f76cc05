-- What a chosen build is for.
use Rattle.std.proofs.Common.{◌≡◌, ℕ, ◌+◌, Bool, true, false, cond, Some, List, [], map, filter, take, not, refl, sym}
use Rattle.std.proofs.Common.{ap, ◌∙◌}
use Rattle.std.specs.Prelude.{◌==◌, Contains}
use Rattle.std.specs.List.{flat_map}
use Rattle.std.proofs.lemmas.Bool.{and_parts, not-true}
use Rattle.std.proofs.lemmas.List.Elements.{All-take, All-contains, All-contains_itself}
use Rattle.gate_types.specs.declared.config.Job.{Job}
use Rattle.gate_types.specs.declared.records.Build.{Build}
use Rattle.gate_types.specs.Settings.{Settings}
use Rattle.gate_types.specs.State.{Item, Queue, State}
use Rattle.gate_types.specs.Line.{Place}
use Rattle.gate_types.specs.Slot.{is_blocked, is_cut, raw_slot_of, slot_of, is_waiting_slot}
use Rattle.gate_types.specs.Standing.{with_ahead, place_of, places}
use Rattle.gate_types.specs.Window.{within_window}
use Rattle.gate_types.specs.Choice.{build_for, builds_for, choices, choose}
use Rattle.gate_types.specs.Rising.{In}
use Rattle.gate_types.specs.declared.records.Outcome.TheVariants as outcome
use Rattle.gate_laws.proofs.Cuts.{waiting_cut}
use Rattle.gate_laws.proofs.Members.{from_map, from_filter, from_flat, contains_in, in_contains, got}
use Rattle.gate_laws.proofs.Places.{item_of_place}

-- a build for a waiting job of an item that is neither blocked nor cut
pub record Chosen (c : Settings) (s : State) (b : Build) : Type 0 where
  pub queue : Queue
  pub place : Place
  pub item : Item
  pub ahead : List Item
  pub job : Job
  pub there : In queue s.queues
  pub within : In place (places c s queue)
  pub item_in : In item queue.items
  pub is_place : with_ahead ahead (place_of c s queue item) ≡ place
  pub job_in : In job place.jobs
  pub unblocked : is_blocked place ≡ false
  pub uncut : is_cut s.builds place ≡ false
  pub waiting : is_waiting_slot (raw_slot_of s.builds place job) ≡ true
  pub same : build_for (s.counters.build + 1) queue place job ≡ b

in_take : {X : Type 0} (n : ℕ) (xs : List X) (x : X) → In x (take n xs) → In x xs
in_take n xs x m = contains_in xs x
    (All-contains (Contains xs) (take n xs) x (All-take (Contains xs) n xs (All-contains_itself xs))
    (in_contains (take n xs) x m))

in_window : (q : Queue) (ps : List Place) (p : Place) → In p (within_window q.window ps) → In p ps
in_window q ps p m = by_window (q.window == 0) m
  where
    by_window : (b : Bool) → In p (cond b ps (take q.window ps)) → In p ps
    by_window true k = k
    by_window false k = in_take q.window ps p k

pub chosen : (c : Settings) (s : State) (b : Build) → choose c s ≡ Some b → Chosen c s b
chosen c s b h =
    let x = from_flat (choices c s) s.queues b (got (flat_map (choices c s) s.queues) 0 b h) in
    let y = from_flat (builds_for s x.0) (within_window x.0.window (places c s x.0)) b x.2 in
    let m = in_window x.0 (places c s x.0) y.0 y.1 in
    let i = item_of_place c s x.0 y.0 m in
    let z = by_blocked x.0 y.0 (is_blocked y.0) refl y.2 in
    record {
      queue = x.0;
      place = y.0;
      item = i.0;
      ahead = i.1;
      job = z.0;
      there = x.1;
      within = m;
      item_in = i.2;
      is_place = i.3;
      job_in = z.1;
      unblocked = z.2;
      uncut = not-true (is_cut s.builds y.0) (waits y.0 z.0 z.3).0;
      waiting = (waits y.0 z.0 z.3).1;
      same = z.4;
    }
  where
    waits : (p : Place) (j : Job) → is_waiting_slot (slot_of s.builds p j) ≡ true →
        (not (is_cut s.builds p) ≡ true) × (is_waiting_slot (raw_slot_of s.builds p j) ≡ true)
    waits p j e = and_parts (not (is_cut s.builds p)) (is_waiting_slot (raw_slot_of s.builds p j))
        (sym (waiting_cut (is_cut s.builds p) (raw_slot_of s.builds p j)) ∙ e)

    by_blocked : (q : Queue) (p : Place) (t : Bool) → is_blocked p ≡ t →
        In b (cond t [] (map (build_for (s.counters.build + 1) q p)
        (filter (λ j. is_waiting_slot (slot_of s.builds p j)) p.jobs))) →
        (j : Job) × In j p.jobs × (is_blocked p ≡ false) × (is_waiting_slot (slot_of s.builds p j) ≡ true) × (build_for
        (s.counters.build + 1) q p j ≡ b)
    by_blocked q p true u m = absurd m
    by_blocked q p false u m =
        let x = from_map (build_for (s.counters.build + 1) q p)
        (filter (λ j. is_waiting_slot (slot_of s.builds p j)) p.jobs) b m in
        let y = from_filter (λ j. is_waiting_slot (slot_of s.builds p j)) p.jobs x.0 x.1 in
        (x.0, y.0, u, y.1, x.2)

pub chosen_runs : (c : Settings) (s : State) (b : Build) → Chosen c s b → b.outcome ≡ outcome.Running
chosen_runs c s b h = ap (λ (x : Build). x.outcome) (sym h.same)

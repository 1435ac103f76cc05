-- Each part of a delivery and of settling keeps the shape of a state.
use Rattle.std.proofs.Common.{◌≡◌, ℕ, ◌+◌, ◌<◌, Bool, true, false, not, ◌&&◌, cond, Option, Some, None, List, [], ◌∷◌}
use Rattle.std.proofs.Common.{map, fold, length, refl, sym, ◌∙◌, subst, inl, inr, arith}
use Rattle.std.specs.Prelude.{◌==◌, nat_lt, find, flat_map}
use Rattle.std.specs.Option.{option_map_or}
use Rattle.std.proofs.lemmas.Bool.{and_parts, ltb-true}
use Rattle.gate_types.specs.declared.records.Build.{Build}
use Rattle.gate_types.specs.declared.records.Change.{Change}
use Rattle.gate_types.specs.declared.records.Stage.{Stage}
use Rattle.gate_types.specs.declared.records.Verdict.{Verdict}
use Rattle.gate_types.specs.declared.records.Plan.{Plan}
use Rattle.gate_types.specs.Names.{same_name, is_name, is_path_name, is_base}
use Rattle.std.specs.List.{list_all}
use Rattle.gate_types.specs.Settings.{Settings, are_sound}
use Rattle.gate_types.specs.declared.records.Ready.{Ready}
use Rattle.gate_types.specs.State.{Item, Queue, State, put_change, change_queue, change_of, is_open, project_of}
use Rattle.gate_types.specs.Slot.{is_running, are_met_by}
use Rattle.gate_types.specs.Standing.{needs_of, all_places}
use Rattle.gate_types.specs.Rebase.{with_live, stays_live, rebase}
use Rattle.gate_types.specs.Window.{bounds_of, shrink}
use Rattle.gate_types.specs.Sweep.{judged, swept_queue, goes, sweep}
use Rattle.gate_types.specs.Admit.{may_enter, next_item, next_plan, with_item, without_ready, entered, admit_one}
use Rattle.gate_types.specs.Settle.{settle}
use Rattle.gate_types.specs.Step.{left_queue, leave, with_stage, made_ready, shrunk_queue, with_ending, end_build}
use Rattle.gate_types.specs.declared.deliveries.Ending.{Ending}
use Rattle.gate_types.specs.Lawful.{IsSound}
use Rattle.gate_types.specs.Forms.{is_change_number, is_revision_number, is_change_in_form, are_settings_in_form}
use Rattle.gate_types.specs.Forms.{is_project_in_form}
use Rattle.gate_types.proofs.NameLemmas.{same_name_is}
use Rattle.gate_laws.proofs.Members.{every, all_from, from_map, from_filter, from_append, any_from, found}
use Rattle.gate_laws.proofs.Rising.{from_put}
use Rattle.gate_laws.proofs.Alone.{name_alone, same_name_of}
use Rattle.gate_laws.proofs.LeaveIsSound.{leaving}
use Rattle.gate_laws.proofs.RecordedChange.{open_known}
use Rattle.gate_laws.proofs.RebaseIsSound.{rebase_is_sound}
use Rattle.gate_laws.proofs.SweepIsSound.{sweep_is_sound}
use Rattle.gate_laws.proofs.AdmitIsSound.{one_sound, project_in_settings}
use Rattle.gate_laws.proofs.Shapes.{NumberedItem, TellsOf, PlanShape, ReadyShape, QueueShape, BuildShape, Shaped}
use Rattle.gate_laws.proofs.RowShapes.{builds_shaped, shrunk_small, floor_small, window_shape, left_shape}
use Rattle.gate_laws.proofs.RowShapes.{entered_shape, swept_shape}
use Rattle.gate_types.specs.Limits.{most_items}
use Rattle.gate_types.specs.Keys.{serial_of_plan}
use Rattle.gate_types.specs.Rising.{In}

-- the whole shape of a queue
abbrev pub WholeQueue : Queue → Type 0
WholeQueue q = QueueShape (length q.landings) q

-- queues that change one by one
pub queues_shaped : (f : Queue → Queue) (qs : List Queue) → ((q : Queue) → In q qs → WholeQueue (f q)) → (q : Queue) →
    In q (map f qs) → WholeQueue q
queues_shaped f qs h q m = let x = from_map f qs q m in subst WholeQueue x.2 (h x.0 x.1)

-- ---- settling

pub rebase_shaped : (c : Settings) (s : State) → Shaped c s → Shaped c (rebase c s)
rebase_shaped c s h = record {
  changes = h.changes;
  ready = h.ready;
  queues = h.queues;
  plans = h.plans;
  builds = builds_shaped c (λ b. with_live (b.live && stays_live s.builds (all_places c s) b) b) (λ b x. x) s.builds h.builds;
}

pub sweep_shaped : (c : Settings) (s : State) → are_sound c ≡ true → Shaped c s → Shaped c (sweep c s)
sweep_shaped c s w h = record {
  changes = h.changes;
  ready = h.ready;
  queues = queues_shaped (λ q. swept_queue (bounds_of c q) (judged c s q) q) s.queues
      (λ q m. swept_shape c s (bounds_of c q) (length q.landings) q (floor_small c w q) (h.queues q m));
  plans = λ p m. h.plans p (from_filter (λ (x : Plan). not (goes (flat_map (judged c s) s.queues) x.serial)) s.plans p m).0;
  builds = builds_shaped c
      (λ b. with_live (b.live && not (is_running b.outcome && goes (flat_map (judged c s) s.queues) b.serial)) b)
      (λ b x. x) s.builds h.builds;
}

-- the revision of an open change
open_revision : (c : Settings) (s : State) (n : ℕ) → Shaped c s → is_open (change_of s n) ≡ true →
    is_revision_number (change_of s n).revision ≡ true
open_revision c s n h o =
    let form = h.changes (change_of s n) (open_known s n o).1 in
    let p4 = and_parts _ _ form in
    let p3 = and_parts _ _ p4.0 in
    (and_parts _ _ p3.0).1

-- the queue that a ready change enters
record Room (c : Settings) (s : State) (r : Ready) : Type 0 where
  queue : Queue
  there : In queue s.queues
  named : same_name queue.name (project_of c s r.change).queue ≡ true
  room : length queue.items < most_items

room_of : (c : Settings) (s : State) (r : Ready) → may_enter c s r ≡ true → Room c s r
room_of c s r h =
    let x = any_from (λ q. same_name q.name (project_of c s r.change).queue && nat_lt (length q.items) most_items &&
    are_met_by q.items (needs_of s r.change)) s.queues h in
    let last = and_parts _ _ x.2 in
    let first = and_parts _ _ last.0 in
    record { queue = x.0; there = x.1; named = first.0; room = ltb-true (length x.0.items) most_items first.1 }

entered_shaped : (c : Settings) (s : State) (r : Ready) → are_sound c ≡ true → are_settings_in_form c ≡ true →
    IsSound c s → Shaped c s → In r s.ready →
    may_enter c s r ≡ true → Shaped c (entered c s r)
entered_shaped c s r w f k h mr e = record {
  changes = h.changes;
  ready = λ x m. h.ready x (from_filter (λ (x : Ready). not (x.change == r.change)) s.ready x m).0;
  queues = queues_shaped (λ q. cond (same_name q.name name) (with_item i q) q) s.queues
      (λ q m. by_name q m (same_name q.name name) refl);
  plans = λ p m. elim (from_put serial_of_plan (next_plan c s r.change) s.plans p m) [
    | inl x ↦ subst PlanShape x (omega arith, named)
    | inr x ↦ h.plans p x
  ];
  builds = h.builds;
}
  where
    name : List ℕ
    name = (project_of c s r.change).queue

    i : Item
    i = next_item s r.change

    here : Room c s r
    here = room_of c s r e

    is_open_now : is_open (change_of s r.change) ≡ true
    is_open_now = every (λ x. is_open (change_of s x.change) ≡ true) s.ready k.ready_are_open r mr

    named : list_all (λ j. is_name j.name) (project_of c s r.change).jobs ≡ true
    named = (and_parts (is_path_name (project_of c s r.change).name && is_name (project_of c s r.change).queue)
        (list_all (λ j. is_name j.name) (project_of c s r.change).jobs)
        (all_from is_project_in_form c.projects
        (and_parts (is_base c.base && list_all (λ q. is_name q.name) c.queues) (list_all is_project_in_form c.projects) f).1
        (project_of c s r.change)
        (project_in_settings c s r.change k is_open_now))).1

    numbered : NumberedItem i
    numbered = (
      omega arith,
      (h.ready r mr).1,
      open_revision c s r.change h is_open_now,
    )

    by_name : (q : Queue) → In q s.queues → (b : Bool) → same_name q.name name ≡ b →
        WholeQueue (cond b (with_item i q) q)
    by_name q m false g = h.queues q m
    by_name q m true g =
        let same : q ≡ here.queue =
        name_alone c s w k q here.queue m here.there
        (same_name_of q.name here.queue.name (same_name_is q.name name g
        ∙ sym (same_name_is here.queue.name name here.named))) in
        entered_shape (length q.landings) i q (subst (λ (x : Queue). length x.items < most_items) (sym same) here.room)
        numbered (h.queues q m)

one_shaped : (c : Settings) (s : State) → are_sound c ≡ true → are_settings_in_form c ≡ true → IsSound c s →
    Shaped c s → Shaped c (admit_one c s)
one_shaped c s w f k h = by_found (find (may_enter c s) s.ready) refl
  where
    by_found : (o : Option Ready) → find (may_enter c s) s.ready ≡ o → Shaped c (option_map_or (entered c s) o s)
    by_found None e = h
    by_found (Some r) e = let is = found (may_enter c s) s.ready r e in
        entered_shaped c s r w f k h is.0 is.1

all_shaped : (c : Settings) (s : State) (rs : List Ready) → are_sound c ≡ true → are_settings_in_form c ≡ true →
    IsSound c s → Shaped c s → Shaped c (fold (λ t _. admit_one c t) s rs)
all_shaped c s [] w f k h = h
all_shaped c s (r ∷ rs) w f k h = all_shaped c (admit_one c s) rs w f (one_sound c s w k) (one_shaped c s w f k h)

pub settle_shaped : (c : Settings) (s : State) → are_sound c ≡ true → are_settings_in_form c ≡ true → IsSound c s →
    Shaped c s → Shaped c (settle c s)
settle_shaped c s w f k h =
    let t = sweep c (rebase c s) in
    all_shaped c t t.ready w f (sweep_is_sound c (rebase c s) (rebase_is_sound c s k))
    (sweep_shaped c (rebase c s) w (rebase_shaped c s h))

-- ---- parts of deliveries

-- an item leaves, other than by landing
pub leave_shaped : (c : Settings) (s : State) (v : Verdict) (n : ℕ) → ((m : ℕ) → TellsOf m v) → Shaped c s →
    Shaped c (leave v n s)
leave_shaped c s v n t h = record {
  changes = h.changes;
  ready = h.ready;
  queues = queues_shaped (left_queue v n) s.queues
      (λ q m. left_shape v n (length q.landings) q (λ i k. t (length q.landings)) (h.queues q m));
  plans = λ p m. h.plans p (from_filter (λ (x : Plan). not (leaving n s x.serial)) s.plans p m).0;
  builds = builds_shaped c (λ b. with_live (b.live && not (is_running b.outcome && leaving n s b.serial)) b)
      (λ b x. x) s.builds h.builds;
}

pub put_shaped : (c : Settings) (s : State) (k : Change) → is_change_in_form k ≡ true → Shaped c s →
    Shaped c (put_change k s)
put_shaped c s k f h = record {
  changes = λ x m. elim (from_put (λ (j : Change). j.number) k s.changes x m)
      [ inl e ↦ subst (λ y. is_change_in_form y ≡ true) e f | inr n ↦ h.changes x n ];
  ready = h.ready;
  queues = h.queues;
  plans = h.plans;
  builds = h.builds;
}

-- a change that is known, at another stage
pub stage_shaped : (c : Settings) (s : State) (g : Stage) (n : ℕ) → In (change_of s n) s.changes → Shaped c s →
    Shaped c (with_stage g n s)
stage_shaped c s g n m h = put_shaped c s (record (change_of s n) { stage = g }) (h.changes (change_of s n) m) h

pub unready_shaped : (c : Settings) (s : State) (n : ℕ) → Shaped c s → Shaped c (without_ready n s)
unready_shaped c s n h = record {
  changes = h.changes;
  ready = λ r m. h.ready r (from_filter (λ (r : Ready). not (r.change == n)) s.ready r m).0;
  queues = h.queues;
  plans = h.plans;
  builds = h.builds;
}

pub ready_shaped : (c : Settings) (s : State) (n : ℕ) → is_change_number n ≡ true → Shaped c s →
    Shaped c (made_ready n s)
ready_shaped c s n f h = record {
  changes = h.changes;
  ready = λ r m. elim (from_append s.ready (record { approval = s.counters.approval + 1; change = n } ∷ []) r m) [
    | inl o ↦ h.ready r o
    | inr w ↦ (elim w [ inl e ↦ subst ReadyShape e (omega arith, f) | inr z ↦ absurd z ])
  ];
  queues = h.queues;
  plans = h.plans;
  builds = h.builds;
}

-- a smaller window
pub shrunk_shaped : (c : Settings) (s : State) (name : List ℕ) → are_sound c ≡ true → Shaped c s →
    Shaped c (change_queue name (shrunk_queue c) s)
shrunk_shaped c s name w h = record {
  changes = h.changes;
  ready = h.ready;
  queues = queues_shaped (λ q. cond (same_name q.name name) (shrunk_queue c q) q) s.queues
      (λ q m. by_name q m (same_name q.name name));
  plans = h.plans;
  builds = h.builds;
}
  where
    by_name : (q : Queue) → In q s.queues → (b : Bool) → WholeQueue (cond b (shrunk_queue c q) q)
    by_name q m true =
        let old = h.queues q m in
        window_shape (length q.landings) (shrink q.window (bounds_of c q).floor (bounds_of c q).rule) q
        (shrunk_small q.window (bounds_of c q).floor (bounds_of c q).rule old.window (floor_small c w q)) old
    by_name q m false = h.queues q m

-- a build ends
pub end_shaped : (c : Settings) (s : State) (e : Ending) (n : ℕ) → Shaped c s → Shaped c (end_build e n s)
end_shaped c s e n h = record {
  changes = h.changes;
  ready = h.ready;
  queues = h.queues;
  plans = h.plans;
  builds = builds_shaped c (λ b. cond (b.number == n) (with_ending e b) b) (λ b x. by_number b x (b.number == n))
      s.builds h.builds;
}
  where
    by_number : (b : Build) → BuildShape c b → (t : Bool) → BuildShape c (cond t (with_ending e b) b)
    by_number b x true = x
    by_number b x false = x

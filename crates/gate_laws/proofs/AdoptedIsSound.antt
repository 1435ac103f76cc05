-- A sound state is sound under settings that it adopts.
use Rattle.std.proofs.Common.{◌≡◌, ℕ, ◌+◌, ◌≤◌, Bool, true, false, not, ◌&&◌, ◌||◌, cond, Option, Some, None, List}
use Rattle.std.proofs.Common.{[], map, length, refl, sym, ap, ◌∙◌, subst, arith, All, true≢false}
use Rattle.std.specs.Prelude.{◌==◌, slice_get, Contains, ◌↔◌, find}
use Rattle.std.specs.List.{list_any, flat_map, AllPass}
use Rattle.std.specs.List.Sorted.{IsStrictlyIncreasing}
use Rattle.std.specs.Option.{option_map_or}
use Rattle.std.proofs.lemmas.Bool.{and_parts, and_from}
use Rattle.std.proofs.lemmas.List.Elements.{All-nil}
use Rattle.gate_types.specs.declared.config.Queue.{Queue as QueueSetting}
use Rattle.gate_types.specs.declared.records.Build.{Build}
use Rattle.gate_types.specs.declared.records.Landing.{Landing}
use Rattle.gate_types.specs.Names.{same_name}
use Rattle.gate_types.specs.Settings.{Settings, has_queue}
use Rattle.gate_types.specs.State.{Item, Queue, State, empty_queue, change_of, is_open, plan_in, project_of}
use Rattle.gate_types.specs.Line.{Place}
use Rattle.gate_types.specs.Standing.{places, all_places}
use Rattle.gate_types.specs.Step.{has_project}
use Rattle.gate_types.specs.Adopt.{resized, adopted_queue, adopted}
use Rattle.gate_types.specs.Evidence.{has_evidence}
use Rattle.gate_types.specs.Lawful.{IsSound, serials_of, drawn_serials, waiting_changes, landed_changes}
use Rattle.gate_types.specs.Lawful.{is_sound_item, is_sound_build, is_overtaken_rightly, is_of_item, TellsLandings}
use Rattle.gate_types.specs.Lawful.{ArePlanned}
use Rattle.gate_types.specs.Rising.{In}
use Rattle.gate_types.proofs.NameLemmas.{same_name_is}
use Rattle.gate_laws.specs.Adoption.{AdoptedIsSound}
use Rattle.gate_laws.proofs.Members.{every, all, from_map, to_map, found, not_found, map_map, map_same}
use Rattle.gate_laws.proofs.Members.{in_contains, contains_in}
use Rattle.gate_laws.proofs.Counts.{times, times-append, distinct_less, all_below}
use Rattle.gate_laws.proofs.Alone.{same_name_of, map-flat, item_changes}
use Rattle.gate_laws.proofs.Parts.{ItemsRise, LandingsRise, HasSoundItems, ShowsAll, HasSingles}
use Rattle.gate_laws.proofs.Facts.{BuildFacts, build_facts, sound_build}
use Rattle.gate_laws.proofs.WindowIsSound.{with_window}
use Rattle.gate_laws.proofs.Adopting.{Adopts, each_queue, still_queue, any_queue, flat_before, flat_after}
use Rattle.gate_laws.proofs.Adopting.{times_adopted, queue_kept, project_kept, set_queue, set_kept}

pub none_falls : IsStrictlyIncreasing []
none_falls k h = absurd (omega (arith, h))

-- the names are those of the settings
names_adopted : (c d : Settings) (s : State) → map (λ q. q.name) (adopted c d s).queues ≡ map (λ r. r.name) d.queues
names_adopted c d s = map_map (λ (q : Queue). q.name) (adopted_queue c s) d.queues
    ∙ map_same (λ r. (adopted_queue c s r).name) (λ (r : QueueSetting). r.name) d.queues (λ r m.
    by_found r (find (λ q. same_name q.name r.name) s.queues) refl)
  where
    by_window : (r : QueueSetting) (q : Queue) (b : Bool) → (cond b q (record q { window = r.window })).name ≡ q.name
    by_window r q true = refl
    by_window r q false = refl

    by_found : (r : QueueSetting) (o : Option Queue) → find (λ q. same_name q.name r.name) s.queues ≡ o →
        (option_map_or (resized c r) o (empty_queue r)).name ≡ r.name
    by_found r None e = refl
    by_found r (Some q) e = by_window r q _
        ∙ same_name_is q.name r.name (found (λ q. same_name q.name r.name) s.queues q e).1

places_are : (c d : Settings) (s : State) → Adopts c d s → (p : Place) → In p (all_places d (adopted c d s)) →
    In p (all_places c s)
places_are c d s a = flat_before c d s (places d (adopted c d s)) (places c s) (λ q w. refl) (λ r. refl)

waiting_less : (c d : Settings) (s : State) → Adopts c d s → (n : ℕ) →
    times n (waiting_changes (adopted c d s)) ≤ times n (waiting_changes s)
waiting_less c d s a n =
    let ready = map (λ r. r.change) s.ready in
    let t = adopted c d s in
    let old = times-append n (map (λ i. i.change) (flat_map (λ q. q.items) s.queues)) ready in
    let new = times-append n (map (λ i. i.change) (flat_map (λ q. q.items) t.queues)) ready in
    let old_flat = ap (times n) (map-flat (λ (i : Item). i.change) (λ (q : Queue). q.items) s.queues) in
    let new_flat = ap (times n) (map-flat (λ (i : Item). i.change) (λ (q : Queue). q.items) t.queues) in
    let less = times_adopted c d s a.after n item_changes (λ q w. refl) (λ r. refl) in
    omega (arith, old, new, old_flat, new_flat, less)

abbrev pub landed_in : Queue → List ℕ
landed_in q = map (λ l. l.change) q.landings

landed_less : (c d : Settings) (s : State) → Adopts c d s → (n : ℕ) →
    times n (landed_changes (adopted c d s)) ≤ times n (landed_changes s)
landed_less c d s a n =
    let t = adopted c d s in
    let old = ap (times n) (map-flat (λ (l : Landing). l.change) (λ (q : Queue). q.landings) s.queues) in
    let new = ap (times n) (map-flat (λ (l : Landing). l.change) (λ (q : Queue). q.landings) t.queues) in
    let less = times_adopted c d s a.after n landed_in (λ q w. refl) (λ r. refl) in
    omega (arith, old, new, less)

drawn_less : (c d : Settings) (s : State) → Adopts c d s → (n : ℕ) →
    times n (drawn_serials (adopted c d s)) ≤ times n (drawn_serials s)
drawn_less c d s a n =
    let t = adopted c d s in
    let serials = map (λ (b : Build). b.serial) s.builds in
    let old = times-append n (flat_map serials_of s.queues) serials in
    let new = times-append n (flat_map serials_of t.queues) serials in
    let less = times_adopted c d s a.after n serials_of (λ q w. refl) (λ r. refl) in
    omega (arith, old, new, less)

-- the landings are those of before
landings_are : (c d : Settings) (s : State) → Adopts c d s → (n : ℕ) →
    Contains (landed_changes s) n ↔ Contains (landed_changes (adopted c d s)) n
landings_are c d s a n =
    let t = adopted c d s in
    let change : Landing → ℕ = λ l. l.change in (
      (λ h. let l = from_map change (flat_map (λ q. q.landings) s.queues) n (contains_in (landed_changes s) n h) in
          in_contains (landed_changes t) n (subst (λ x. In x (landed_changes t)) l.2
          (to_map change (flat_map (λ q. q.landings) t.queues) l.0
          (flat_after c d s a (λ (q : Queue). q.landings) (λ q. q.landings) (λ q w. refl) l.0 l.1)))),
      (λ h. let l = from_map change (flat_map (λ q. q.landings) t.queues) n (contains_in (landed_changes t) n h) in
          in_contains (landed_changes s) n (subst (λ x. In x (landed_changes s)) l.2
          (to_map change (flat_map (λ q. q.landings) s.queues) l.0
          (flat_before c d s (λ (q : Queue). q.landings) (λ q. q.landings) (λ q w. refl) (λ r. refl) l.0 l.1)))),
    )

-- a build is as it was
builds_adopted : (c d : Settings) (s : State) → Adopts c d s → (b : Build) → has_queue c.queues b.queue ≡ true →
    BuildFacts s b →
    BuildFacts (adopted c d s) b
builds_adopted c d s a b set f = record {
  owned = each_queue c d s (λ q. (i : Item) → In i q.items → is_of_item b q i ≡ true)
      (λ q m w r i mi. f.owned q m i mi) (λ r m n i mi. absurd mi);
  runs = λ e.
      let x = f.runs e in
      let w = still_queue c d s a x.0 x.1 in
      (with_window w.0 x.0, w.1, x.2, x.3, x.4);
  began = each_queue c d s (λ q. same_name b.queue q.name ≡ true → b.after ≤ length q.landings)
      (λ q m w r e. f.began q m e) (λ r m n e. absurd (new_queue r n e));
}
  where
    new_queue : (r : QueueSetting) → find (λ q. same_name q.name r.name) s.queues ≡ None →
        same_name b.queue r.name ≡ true → ⊥
    new_queue r n e =
        let q = set_queue c s a.sound b.queue set in
        true≢false (sym (same_name_of q.0.name r.name (q.2 ∙ same_name_is b.queue r.name e))
        ∙ not_found (λ q. same_name q.name r.name) s.queues n q.0 q.1)

nothing_at : (k : ℕ) → slice_get {X = Landing} [] k ≡ None
nothing_at k = refl

plans_adopted : (c d : Settings) (s : State) → Adopts c d s → ArePlanned s.plans (adopted c d s).queues
plans_adopted c d s a =
    let h = a.sound.planned in
    record {
      rise = h.rise;
      kept = λ n. h.kept n
          ∙ (λ k. sym (any_queue c d s a (λ q. list_any (λ i. i.serial == n) q.items) (λ q w. refl) (λ r. refl)) k || sym
          (any_queue c d s a (λ q. list_any (λ l. l.serial == n) q.landings) (λ q w. refl) (λ r. refl)) k);
      sound = h.sound;
      landed = all (λ (q : Queue). AllPass (λ l. not (plan_in s.plans l.serial).fast) q.landings) (adopted c d s).queues
          (each_queue c d s (λ q. AllPass (λ l. not (plan_in s.plans l.serial).fast) q.landings)
          (λ q m w r. every (λ (q : Queue). AllPass (λ l. not (plan_in s.plans l.serial).fast) q.landings) s.queues
          h.landed q m)
          (λ r m n. All-nil (λ (l : Landing). not (plan_in s.plans l.serial).fast ≡ true)));
    }

pub adopted_sound : (c d : Settings) (s : State) → Adopts c d s → IsSound d (adopted c d s)
adopted_sound c d s a =
    let t = adopted c d s in
    let h = a.sound in
    let each = λ (P : Queue → Type 0) (old : All P s.queues)
    (still : (q : Queue) (w : ℕ) → P q → P (with_window w q)) (new : (r : QueueSetting) → P (empty_queue r)).
    all P t.queues (each_queue c d s P (λ q m w r. still q w (every P s.queues old q m)) (λ r m n. new r)) in
    record {
      queues_are_set = names_adopted c d s;
      changes_rise = h.changes_rise;
      items_rise = each ItemsRise h.items_rise (λ q w p. p) (λ r. none_falls);
      landings_rise = each LandingsRise h.landings_rise (λ q w p. p) (λ r. none_falls);
      builds_rise = h.builds_rise;
      ready_rises = h.ready_rises;
      serials_differ = distinct_less (flat_map serials_of s.queues) (flat_map serials_of t.queues)
          (λ n. times_adopted c d s a.after n serials_of (λ q w. refl) (λ r. refl)) h.serials_differ;
      reports_tell_landings = each TellsLandings h.reports_tell_landings (λ q w p. p) (λ r. refl);
      items_are_sound = all (HasSoundItems d t) t.queues (each_queue c d s (HasSoundItems d t)
          (λ q m w r. all (λ i. is_sound_item d t q i ≡ true) q.items (λ i mi.
          item_sound q i (every (λ i. is_sound_item c s q i ≡ true) q.items
          (every (HasSoundItems c s) s.queues h.items_are_sound q m) i mi)))
          (λ r m n. All-nil (λ i. is_sound_item d t (empty_queue r) i ≡ true)));
      ready_are_open = h.ready_are_open;
      projects_are_set = all (λ k. has_project d k.project ≡ true) s.changes (λ k m.
          project_kept c d s a k.project (every (λ k. has_project c k.project ≡ true) s.changes h.projects_are_set k m));
      waiting_differ = distinct_less (waiting_changes s) (waiting_changes t) (waiting_less c d s a) h.waiting_differ;
      landed_differ = distinct_less (landed_changes s) (landed_changes t) (landed_less c d s a) h.landed_differ;
      landed_are_landings = λ n. (
        (λ e. (landings_are c d s a n).0 ((h.landed_are_landings n).0 e)),
        (λ k. (h.landed_are_landings n).1 ((landings_are c d s a n).1 k)),
      );
      overtaken_rightly = all (λ p. is_overtaken_rightly t p ≡ true) (all_places d t) (λ p m.
          every (λ p. is_overtaken_rightly s p ≡ true) (all_places c s) h.overtaken_rightly p (places_are c d s a p m));
      builds_are_sound = all (λ b. is_sound_build t b ≡ true) s.builds (λ b m. sound_build t b (builds_adopted c d s a b
          (every (λ b. has_queue c.queues b.queue ≡ true) s.builds h.builds_are_set b m)
          (build_facts s b (every (λ b. is_sound_build s b ≡ true) s.builds h.builds_are_sound b m))));
      builds_are_single = all (HasSingles t) (all_places d t) (λ p m.
          every (HasSingles s) (all_places c s) h.builds_are_single p (places_are c d s a p m));
      landings_are_shown = all (ShowsAll d t) t.queues (each_queue c d s (ShowsAll d t)
          (λ q m w r. every (ShowsAll c s) s.queues h.landings_are_shown q m)
          (λ r m n k. ap (λ o. option_map_or (has_evidence d t (empty_queue r) (k + 1)) o true) (nothing_at k)));
      approvals_are_drawn = h.approvals_are_drawn;
      builds_are_set = all (λ b. has_queue d.queues b.queue ≡ true) s.builds (λ b m.
          set_kept c d s a b.queue (every (λ b. has_queue c.queues b.queue ≡ true) s.builds h.builds_are_set b m));
      builds_are_drawn = h.builds_are_drawn;
      serials_are_drawn = all_below s.counters.order (drawn_serials s) (drawn_serials t) (drawn_less c d s a)
          h.serials_are_drawn;
      planned = plans_adopted c d s a;
    }
  where
    item_sound : (q : Queue) (i : Item) → is_sound_item c s q i ≡ true → is_sound_item d (adopted c d s) q i ≡ true
    item_sound q i e =
        let both = and_parts (is_open (change_of s i.change) && (change_of s i.change).revision == i.revision)
        (same_name (project_of c s i.change).queue q.name) e in
        let first = and_parts (is_open (change_of s i.change)) ((change_of s i.change).revision == i.revision) both.0 in
        and_from (is_open (change_of s i.change) && (change_of s i.change).revision == i.revision)
        (same_name (project_of d s i.change).queue q.name) both.0
        (ap (λ n. same_name n q.name) (queue_kept c d s a i.change first.0) ∙ both.1)

pub adopted_is_sound : AdoptedIsSound
adopted_is_sound c d s before after may h =
    adopted_sound c d s (record { before = before; after = after; may = may; sound = h })

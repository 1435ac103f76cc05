-- A lawful state without plans becomes a lawful one.
use Rattle.std.proofs.Common.{◌≡◌, ℕ, ◌+◌, ◌≤◌, Bool, true, false, not, ◌&&◌, ◌||◌, Option, Some, None, List, [], map}
use Rattle.std.proofs.Common.{take, refl, sym, ap, ◌∙◌, subst, inl, inr, arith, All, is_some, true≢false}
use Rattle.std.specs.Prelude.{◌==◌, find, unwrap_or, slice_get, IsTrue}
use Rattle.std.specs.List.{list_any, list_all, flat_map, AllPass}
use Rattle.std.specs.Option.{option_map_or}
use Rattle.std.proofs.lemmas.Bool.{and_parts, not-true}
use Rattle.gate_types.specs.declared.config.Project.{Project}
use Rattle.gate_types.specs.declared.records.Change.{Change}
use Rattle.gate_types.specs.declared.records.Landing.{Landing}
use Rattle.gate_types.specs.declared.records.Plan.{Plan}
use Rattle.gate_types.specs.Names.{same_name, is_name, is_path_name, is_base}
use Rattle.gate_types.specs.Settings.{Settings, are_sound, are_sound_jobs, has_queue}
use Rattle.gate_types.specs.State.{Item, Queue, State, known_change, change_of, is_open, is_landed, project_of, plan_of}
use Rattle.gate_types.specs.Line.{Place, landed_entry}
use Rattle.gate_types.specs.Slot.{is_blocked, has_failure}
use Rattle.gate_types.specs.Standing.{with_ahead, places, all_places, place_of, places_after}
use Rattle.gate_types.specs.Rebase.{stays_live}
use Rattle.gate_types.specs.Sweep.{judged, judged_after}
use Rattle.gate_types.specs.Step.{has_project}
use Rattle.gate_types.specs.Evidence.{is_one_on, passed_builds, has_evidence}
use Rattle.gate_types.specs.Migrate.{item_plan, landing_plan, plans_of_queue, migrated}
use Rattle.gate_types.specs.Lawful.{IsSound, IsLawful, serials_of, landed_changes, is_sound_item, ArePlanned}
use Rattle.gate_types.specs.Lawful.{TellsLandings}
use Rattle.gate_types.specs.Forms.{are_settings_in_form, is_project_in_form}
use Rattle.gate_types.specs.Keys.{serial_of_plan}
use Rattle.gate_types.specs.Rising.{In}
use Rattle.gate_laws.specs.Rest.{IsAtRest}
use Rattle.gate_laws.specs.Migration.{place_before, places_before, all_before, is_shown_before, WasLawful}
use Rattle.gate_laws.specs.Migration.{MigratedIsLawful, MigratedContentIsLawful, NothingWasCut}
use Rattle.gate_laws.proofs.Members.{every, all, all_from, any_from, found, not_found, from_map, to_map}
use Rattle.gate_laws.proofs.Members.{from_append, to_left, to_right, from_flat, to_flat, flat_same, map_same}
use Rattle.gate_laws.proofs.Members.{in_contains, got}
use Rattle.gate_laws.proofs.Counts.{distinct_from}
use Rattle.gate_laws.proofs.Rising.{increasing}
use Rattle.gate_laws.proofs.Changes.{unknown}
use Rattle.gate_laws.proofs.Parts.{HasSoundItems, IsOvertakenRightly, HasSingles, ShowsAll}
use Rattle.gate_laws.proofs.SettledIsAtRest.{rest_is_settled}
use Rattle.gate_laws.proofs.Shapes.{Shaped, shaped_from}
use Rattle.gate_laws.proofs.StepIsInForm.{form_of}
use Rattle.gate_laws.proofs.Migrating.{rising_all, from_all, any_all, plan_all, plans_apart, planned_all}

-- ---- what is found

-- all plans that are put
abbrev plans_before : Settings → State → List Plan
plans_before c s = flat_map (plans_of_queue c s) s.queues

found_plan : (c : Settings) (s : State) → WasLawful c s → (p : Plan) → In p (plans_before c s) →
    plan_of (migrated c s) p.serial ≡ p
found_plan c s h p m =
    let apart = plans_apart c s p.serial s.queues (every TellsLandings s.queues h.reports_tell_landings) in
    let once = distinct_from (flat_map serials_of s.queues) h.serials_differ p.serial in
    plan_all (plans_before c s) [] p m (omega (arith, apart, once))

item_found : (c : Settings) (s : State) → WasLawful c s → (q : Queue) → In q s.queues → (i : Item) → In i q.items →
    plan_of (migrated c s) i.serial ≡ item_plan c s i
item_found c s h q mq i mi = found_plan c s h (item_plan c s i) (to_flat (plans_of_queue c s) s.queues q (item_plan c s i)
    mq (to_left (map (item_plan c s) q.items) (map (landing_plan c s) q.landings) (item_plan c s i)
    (to_map (item_plan c s) q.items i mi)))

landing_found : (c : Settings) (s : State) → WasLawful c s → (q : Queue) → In q s.queues → (l : Landing) →
    In l q.landings → plan_of (migrated c s) l.serial ≡ landing_plan c s l
landing_found c s h q mq l ml = found_plan c s h (landing_plan c s l)
    (to_flat (plans_of_queue c s) s.queues q (landing_plan c s l) mq
    (to_right (map (item_plan c s) q.items) (map (landing_plan c s) q.landings) (landing_plan c s l)
    (to_map (landing_plan c s) q.landings l ml)))

-- ---- places

place_same : (c : Settings) (s : State) → WasLawful c s → (q : Queue) → In q s.queues → (i : Item) → In i q.items →
    place_of c (migrated c s) q i ≡ place_before c s q i
place_same c s h q mq i mi =
    ap (λ (p : Plan). let x : Place = record (place_before c s q i) { jobs = p.jobs; fast = p.fast } in x) (item_found c s h q mq i mi)

places_same : (c : Settings) (s : State) → WasLawful c s → (q : Queue) → In q s.queues →
    places c (migrated c s) q ≡ places_before c s q
places_same c s h q mq = ap (places_after s.builds [])
    (map_same (place_of c (migrated c s) q) (place_before c s q) q.items (place_same c s h q mq))

all_same : (c : Settings) (s : State) → WasLawful c s → all_places c (migrated c s) ≡ all_before c s
all_same c s h = flat_same (places c (migrated c s)) (places_before c s) s.queues (places_same c s h)

-- ---- projects

-- a change that is open or has landed is known
known_one : (s : State) (n : ℕ) → is_open (change_of s n) || is_landed (change_of s n) ≡ true →
    In (change_of s n) s.changes
known_one s n h = by_known (known_change s n) refl h
  where
    by_known : (x : Option Change) → known_change s n ≡ x →
        is_open (unwrap_or x (unknown n)) || is_landed (unwrap_or x (unknown n)) ≡ true →
        In (unwrap_or x (unknown n)) s.changes
    by_known None e f = absurd (true≢false (sym f))
    by_known (Some k) e f = (found (λ k. k.number == n) s.changes k e).0

project_there : (c : Settings) (s : State) (n : ℕ) → WasLawful c s →
    is_open (change_of s n) || is_landed (change_of s n) ≡ true → In (project_of c s n) c.projects
project_there c s n h o = by_project (find test c.projects) refl
  where
    test : Project → Bool
    test p = same_name p.name (change_of s n).project

    there : has_project c (change_of s n).project ≡ true
    there = every (λ k. has_project c k.project ≡ true) s.changes h.projects_are_set (change_of s n) (known_one s n o)

    by_project : (o : Option Project) → find test c.projects ≡ o →
        In (unwrap_or o (record { name = []; queue = []; jobs = []; fail_fast = false })) c.projects
    by_project None e =
        let p = any_from test c.projects there in
        absurd (true≢false (sym p.2 ∙ not_found test c.projects e p.0 p.1))
    by_project (Some p) e = (found test c.projects p e).0

-- each plan has the jobs of a project
plan_project : (c : Settings) (s : State) → WasLawful c s → (p : Plan) → In p (plans_before c s) →
    (n : ℕ) × In (project_of c s n) c.projects × ((project_of c s n).jobs ≡ p.jobs)
plan_project c s h p m =
    let q = from_flat (plans_of_queue c s) s.queues p m in
    elim (from_append (map (item_plan c s) q.0.items) (map (landing_plan c s) q.0.landings) p q.2) [
      | inl a ↦ (
          let i = from_map (item_plan c s) q.0.items p a in
          let sound = every (λ i. is_sound_item c s q.0 i ≡ true) q.0.items
          (every (HasSoundItems c s) s.queues h.items_are_sound q.0 q.1) i.0 i.1 in
          let both = and_parts (is_open (change_of s i.0.change) && (change_of s i.0.change).revision == i.0.revision)
          (same_name (project_of c s i.0.change).queue q.0.name) sound in
          let first = and_parts (is_open (change_of s i.0.change)) ((change_of s i.0.change).revision == i.0.revision)
          both.0 in (
            i.0.change,
            project_there c s i.0.change h (ap (λ b. b || is_landed (change_of s i.0.change)) first.0),
            ap (λ (x : Plan). x.jobs) i.2,
          ))
      | inr b ↦ (
          let l = from_map (landing_plan c s) q.0.landings p b in
          let landed : is_landed (change_of s l.0.change) ≡ true = (h.landed_are_landings l.0.change).1
          (in_contains (landed_changes s) l.0.change (to_map (λ (x : Landing). x.change)
          (flat_map (λ (x : Queue). x.landings) s.queues) l.0
          (to_flat (λ (x : Queue). x.landings) s.queues q.0 l.0 q.1 l.1))) in (
            l.0.change,
            project_there c s l.0.change h
                (ap (λ b. is_open (change_of s l.0.change) || b) landed ∙ late (is_open (change_of s l.0.change))),
            ap (λ (x : Plan). x.jobs) l.2,
          ))
    ]
  where
    late : (b : Bool) → b || true ≡ true
    late true = refl
    late false = refl

sound_plan : (c : Settings) (s : State) → are_sound c ≡ true → WasLawful c s → (p : Plan) → In p (plans_before c s) →
    are_sound_jobs p.jobs ≡ true
sound_plan c s w h p m =
    let x = plan_project c s h p m in
    subst (λ js. are_sound_jobs js ≡ true) x.2
    (and_parts (has_queue c.queues (project_of c s x.0).queue) (are_sound_jobs (project_of c s x.0).jobs)
    (all_from (λ p. has_queue c.queues p.queue && are_sound_jobs p.jobs) c.projects (and_parts _ _ w).1
    (project_of c s x.0) x.1)).1

plans_migrated : (c : Settings) (s : State) → are_sound c ≡ true → WasLawful c s →
    ArePlanned (migrated c s).plans s.queues
plans_migrated c s w h = record {
  rise = increasing serial_of_plan (migrated c s).plans (rising_all [] (plans_before c s) tt);
  kept = λ n. any_all [] (plans_before c s) n ∙ off (list_any (λ p. p.serial == n) (plans_before c s))
      ∙ planned_all c s n s.queues;
  sound = all (λ p. are_sound_jobs p.jobs ≡ true) (migrated c s).plans (λ p m.
      elim (from_all [] (plans_before c s) p m) [ inl a ↦ sound_plan c s w h p a | inr z ↦ absurd z ]);
  landed = all (λ (q : Queue). AllPass (λ l. not (plan_of (migrated c s) l.serial).fast) q.landings) s.queues (λ q mq.
      all (λ l. not (plan_of (migrated c s) l.serial).fast ≡ true) q.landings (λ l ml.
      ap (λ (p : Plan). not p.fast) (landing_found c s h q mq l ml)));
}
  where
    off : (b : Bool) → b || false ≡ b
    off true = refl
    off false = refl

-- ---- all of it

sound_migrated : (c : Settings) (s : State) → are_sound c ≡ true → WasLawful c s → IsSound c (migrated c s)
sound_migrated c s w h =
    let t = migrated c s in
    let same = all_same c s h in
    record {
      queues_are_set = h.queues_are_set;
      changes_rise = h.changes_rise;
      items_rise = h.items_rise;
      landings_rise = h.landings_rise;
      builds_rise = h.builds_rise;
      ready_rises = h.ready_rises;
      serials_differ = h.serials_differ;
      reports_tell_landings = h.reports_tell_landings;
      items_are_sound = h.items_are_sound;
      ready_are_open = h.ready_are_open;
      projects_are_set = h.projects_are_set;
      waiting_differ = h.waiting_differ;
      landed_differ = h.landed_differ;
      landed_are_landings = h.landed_are_landings;
      overtaken_rightly = subst (All (IsOvertakenRightly s)) (sym same) h.overtaken_rightly;
      builds_are_sound = h.builds_are_sound;
      builds_are_single = subst (All (HasSingles s)) (sym same) h.builds_are_single;
      landings_are_shown = all (ShowsAll c t) s.queues (λ q mq k. shown q mq k (slice_get q.landings k) refl
          (every (λ q. (k : ℕ) → IsTrue (option_map_or (is_shown_before c s q (k + 1)) (slice_get q.landings k) true))
          s.queues h.landings_are_shown q mq k));
      approvals_are_drawn = h.approvals_are_drawn;
      builds_are_set = h.builds_are_set;
      builds_are_drawn = h.builds_are_drawn;
      serials_are_drawn = h.serials_are_drawn;
      planned = plans_migrated c s w h;
    }
  where
    shown : (q : Queue) → In q s.queues → (k : ℕ) → (o : Option Landing) → slice_get q.landings k ≡ o →
        IsTrue (option_map_or (is_shown_before c s q (k + 1)) o true) →
        IsTrue (option_map_or (has_evidence c (migrated c s) q (k + 1)) o true)
    shown q mq k None e i = refl
    shown q mq k (Some l) e i =
        ap (λ (p : Plan). list_all (λ j. not j.voting || is_one_on q.landings
        (map landed_entry (take (k + 1) q.landings)) (passed_builds s.builds l.serial j)) p.jobs)
        (landing_found c s h q mq l (got q.landings k l e)) ∙ i

rest_migrated : (c : Settings) (s : State) → WasLawful c s → IsAtRest c (migrated c s)
rest_migrated c s h =
    let t = migrated c s in
    record {
      live_stay = subst (λ ps. AllPass (λ b. not b.live || stays_live s.builds ps b) s.builds) (sym (all_same c s h)) h.live_stay;
      nobody_goes = all (λ q. AllPass (λ j. not (is_some j.verdict)) (judged c t q)) s.queues (λ q mq.
          subst (λ ps. AllPass (λ j. not (is_some j.verdict)) (judged_after s.builds [] ps))
          (sym (places_same c s h q mq))
          (every (λ q. AllPass (λ j. not (is_some j.verdict)) (judged_after s.builds [] (places_before c s q))) s.queues
          h.nobody_goes q mq));
      nobody_enters = h.nobody_enters;
    }

pub migrated_lawful : (c : Settings) (s : State) → are_sound c ≡ true → WasLawful c s → IsLawful c (migrated c s)
migrated_lawful c s w h = record {
  sound = sound_migrated c s w h;
  settled = rest_is_settled c (migrated c s) (rest_migrated c s h);
  not_exhausted = h.not_exhausted;
}

pub migrated_is_lawful : MigratedIsLawful
migrated_is_lawful = migrated_lawful

-- ---- of its form

shaped_migrated : (c : Settings) (s : State) → are_settings_in_form c ≡ true → WasLawful c s → Shaped c s →
    Shaped c (migrated c s)
shaped_migrated c s f h k = record {
  changes = k.changes;
  ready = k.ready;
  queues = k.queues;
  plans = λ p m. elim (from_all [] (plans_before c s) p m) [ inl a ↦ (least p a, named p a) | inr z ↦ absurd z ];
  builds = k.builds;
}
  where
    named : (p : Plan) → In p (plans_before c s) → list_all (λ j. is_name j.name) p.jobs ≡ true
    named p m =
        let x = plan_project c s h p m in
        subst (λ js. list_all (λ j. is_name j.name) js ≡ true) x.2
        (and_parts (is_path_name (project_of c s x.0).name && is_name (project_of c s x.0).queue)
        (list_all (λ j. is_name j.name) (project_of c s x.0).jobs)
        (all_from is_project_in_form c.projects
        (and_parts (is_base c.base && list_all (λ q. is_name q.name) c.queues)
        (list_all is_project_in_form c.projects) f).1 (project_of c s x.0) x.1)).1

    least : (p : Plan) → In p (plans_before c s) → 1 ≤ p.serial
    least p m =
        let q = from_flat (plans_of_queue c s) s.queues p m in
        elim (from_append (map (item_plan c s) q.0.items) (map (landing_plan c s) q.0.landings) p q.2) [
          | inl a ↦ (let i = from_map (item_plan c s) q.0.items p a in
              subst (λ (x : Plan). 1 ≤ x.serial) i.2 ((k.queues q.0 q.1).items i.0 i.1).0)
          | inr b ↦ (let l = from_map (landing_plan c s) q.0.landings p b in
              subst (λ (x : Plan). 1 ≤ x.serial) l.2 ((k.queues q.0 q.1).landings l.0 l.1).0)
        ]

pub migrated_content_is_lawful : MigratedContentIsLawful
migrated_content_is_lawful c x w f h k =
    let lawful = migrated_lawful c x.state w h in
    record {
      lawful = lawful;
      in_form = record {
        state = form_of c (migrated c x.state) f lawful
            (shaped_migrated c x.state f h (shaped_from c x.state k.state));
        kept = k.kept;
        ids_differ = k.ids_differ;
      };
    }

-- ---- where no project is to fail fast

pub nothing_was_cut : NothingWasCut
nothing_was_cut c s q i ahead builds h =
    let p = with_ahead ahead (place_before c s q i) in
    ap (λ t. t && not (is_blocked p) && has_failure builds p) (slow (find test c.projects) refl)
  where
    test : Project → Bool
    test p = same_name p.name (change_of s i.change).project

    slow : (o : Option Project) → find test c.projects ≡ o →
        (unwrap_or o (record { name = []; queue = []; jobs = []; fail_fast = false })).fail_fast ≡ false
    slow None e = refl
    slow (Some p) e =
        not-true p.fail_fast (all_from (λ (p : Project). not p.fail_fast) c.projects h p (found test c.projects p e).0)

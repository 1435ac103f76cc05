-- A chosen build has its shape: the names are the settings', the numbers those of items.
use Rattle.std.proofs.Common.{◌≡◌, ◌+◌, ◌≤◌, Bool, true, false, cond, Some, List, [], ◌∷◌, ◌++◌, map, length, refl}
use Rattle.std.proofs.Common.{sym, ap, ◌∙◌, subst, ◌⊎◌, inl, inr, arith}
use Rattle.std.specs.Prelude.{nat_lt}
use Rattle.std.proofs.lemmas.Bool.{and_parts, and_from}
use Rattle.std.proofs.lemmas.List.{length-map}
use Rattle.gate_types.specs.declared.config.Job.{Job}
use Rattle.gate_types.specs.declared.config.Queue.{Queue as QueueSetting}
use Rattle.gate_types.specs.declared.records.Build.{Build}
use Rattle.gate_types.specs.Names.{same_name, is_name}
use Rattle.gate_types.specs.Settings.{Settings, has_queue}
use Rattle.gate_types.specs.State.{Item, Queue, State}
use Rattle.gate_types.specs.Line.{Place, item_entry}
use Rattle.gate_types.specs.Standing.{is_failing, with_ahead, next_ahead, places_after, place_of, places}
use Rattle.gate_types.specs.Choice.{build_for, choose}
use Rattle.gate_types.specs.Step.{with_build}
use Rattle.gate_types.specs.Lawful.{IsSound}
use Rattle.gate_types.specs.Forms.{is_change_number, is_revision_number, is_entry_in_form, are_settings_in_form}
use Rattle.gate_types.specs.Rising.{In}
use Rattle.gate_laws.proofs.Members.{from_map, to_map, from_append, any_to, all_from, all_to}
use Rattle.gate_laws.proofs.Alone.{same_name_of}
use Rattle.gate_laws.proofs.Chosen.{chosen}
use Rattle.gate_laws.proofs.Shapes.{plan_named, NumberedItem, BuildShape, Shaped}
use Rattle.gate_laws.proofs.FewRows.{few_landings, Tops}
use Rattle.gate_laws.proofs.Tallies.{shorter}

-- ---- names

-- a queue has a name of the settings
pub queue_set : (c : Settings) (s : State) → IsSound c s → are_settings_in_form c ≡ true → (q : Queue) → In q s.queues →
    (has_queue c.queues q.name ≡ true) × (is_name q.name ≡ true)
queue_set c s h f q m =
    let x = from_map (λ (r : QueueSetting). r.name) c.queues q.name
    (subst (In q.name) h.queues_are_set (to_map (λ (r : Queue). r.name) s.queues q m)) in
    let last = and_parts _ _ f in
    let first = and_parts _ _ last.0 in (
      any_to (λ (r : QueueSetting). same_name r.name q.name) c.queues x.0 x.1 (same_name_of x.0.name q.name x.2),
      subst (λ n. is_name n ≡ true) x.2 (all_from (λ (r : QueueSetting). is_name r.name) c.queues first.1 x.0 x.1),
    )

-- ---- what is ahead

-- it was ahead before, or is of a place before
ahead_from : (bs : List Build) (ahead : List Item) (ps : List Place) (p : Place) → In p (places_after bs ahead ps) →
    (i : Item) → In i p.ahead → In i ahead ⊎ In i (map (λ (r : Place). r.item) ps)
ahead_from bs ahead [] p m i k = absurd m
ahead_from bs ahead (r ∷ rs) p m i k = elim m [
  | inl e ↦ inl (subst (λ (x : Place). In i x.ahead) (sym e) k)
  | inr n ↦ by_failing (is_failing bs (with_ahead ahead r))
      (ahead_from bs (next_ahead bs (with_ahead ahead r)) rs p n i k)
]
  where
    by_failing : (b : Bool) → In i (cond b ahead (ahead ++ r.item ∷ [])) ⊎ In i (map (λ (r : Place). r.item) rs) →
        In i ahead ⊎ In i (r.item ∷ map (λ (r : Place). r.item) rs)
    by_failing true w = elim w [ inl a ↦ inl a | inr x ↦ inr (inr x) ]
    by_failing false w = elim w [
      | inl a ↦ (elim (from_append ahead (r.item ∷ []) i a)
          [ inl x ↦ inl x | inr x ↦ (elim x [ inl e ↦ inr (inl e) | inr z ↦ absurd z ]) ])
      | inr x ↦ inr (inr x)
    ]

push_long : (is : List Item) (i : Item) → length (is ++ i ∷ []) ≡ length is + 1
push_long [] i = refl
push_long (j ∷ js) i = let e = push_long js i in omega (arith, e)

-- no more than there are places
ahead_short : (bs : List Build) (ahead : List Item) (ps : List Place) (p : Place) → In p (places_after bs ahead ps) →
    length p.ahead ≤ length ahead + length ps
ahead_short bs ahead [] p m = absurd m
ahead_short bs ahead (r ∷ rs) p m = elim m [
  | inl e ↦ (let same : length ahead ≡ length p.ahead = ap (λ (x : Place). length x.ahead) e in omega (arith, same))
  | inr n ↦ by_failing (is_failing bs (with_ahead ahead r)) (ahead_short bs (next_ahead bs (with_ahead ahead r)) rs p n)
]
  where
    by_failing : (b : Bool) → length p.ahead ≤ length (cond b ahead (ahead ++ r.item ∷ [])) + length rs →
        length p.ahead ≤ length ahead + length (r ∷ rs)
    by_failing true h = omega (arith, h)
    by_failing false h = let more = push_long ahead r.item in omega (arith, h, more)

-- what is ahead in a queue is of its items
ahead_in : (c : Settings) (s : State) (q : Queue) (p : Place) → In p (places c s q) → (i : Item) →
    In i p.ahead → In i q.items
ahead_in c s q p m i k = elim (ahead_from s.builds [] (map (place_of c s q) q.items) p m i k) [
  | inl z ↦ absurd z
  | inr w ↦ (
      let x = from_map (λ (r : Place). r.item) (map (place_of c s q) q.items) i w in
      let y = from_map (place_of c s q) q.items x.0 x.1 in
      subst (λ j. In j q.items) (ap (λ (r : Place). r.item) y.2 ∙ x.2) y.1)
]

-- ---- the build

-- an item at its revision
entry_to : (i : Item) → NumberedItem i → is_entry_in_form (item_entry i) ≡ true
entry_to i n = and_from (is_change_number i.change) (is_revision_number i.revision) n.1 n.2

pub chosen_shape : (c : Settings) (s : State) → are_settings_in_form c ≡ true → IsSound c s → Tops s → Shaped c s →
    (b : Build) → choose c s ≡ Some b → BuildShape c b
chosen_shape c s f h t k b e =
    let x = chosen c s b e in
    let p = with_ahead x.ahead (place_of c s x.queue x.item) in
    let within : In p (places c s x.queue) = subst (λ r. In r (places c s x.queue)) (sym x.is_place) x.within in
    let job : In x.job p.jobs = subst (λ (r : Place). In x.job r.jobs) (sym x.is_place) x.job_in in
    let names = queue_set c s h f x.queue x.there in
    let q = k.queues x.queue x.there in
    let top = few_landings c s h k x.queue x.there in
    let less = shorter (λ l. nat_lt l.serial x.item.serial) x.queue.landings in
    let order = t.order in
    let ahead = ahead_short s.builds [] (map (place_of c s x.queue) x.queue.items) p within in
    let places = length-map x.queue.items (place_of c s x.queue) in
    let room = q.room in
    let entries = length-map x.ahead item_entry in
    subst (BuildShape c) (ap (λ r. build_for (s.counters.build + 1) x.queue r x.job) x.is_place ∙ x.same) (
      record {
        counted = omega arith;
        in_queue = names.0;
        queue_name = names.1;
        job_name = all_from (λ (j : Job). is_name j.name) p.jobs (plan_named c s k x.item.serial) x.job job;
        base = omega (arith, less, top, order);
        few = omega (arith, ahead, places, room, entries);
        entries = all_to is_entry_in_form (map item_entry x.ahead) (λ y m.
            let z = from_map item_entry x.ahead y m in
            subst (λ w. is_entry_in_form w ≡ true) z.2
            (entry_to z.0 (q.items z.0 (ahead_in c s x.queue p within z.0 z.1))));
      },
      q.items x.item x.item_in,
    )

pub take_shaped : (c : Settings) (s : State) → are_settings_in_form c ≡ true → IsSound c s → Tops s → Shaped c s →
    (b : Build) → choose c s ≡ Some b → Shaped c (with_build b s)
take_shaped c s f h t k b e = record {
  changes = k.changes;
  ready = k.ready;
  queues = k.queues;
  plans = k.plans;
  builds = λ x m. elim (from_append s.builds (b ∷ []) x m) [
    | inl o ↦ k.builds x o
    | inr w ↦ (elim w [ inl i ↦ subst (BuildShape c) i (chosen_shape c s f h t k b e) | inr z ↦ absurd z ])
  ];
}

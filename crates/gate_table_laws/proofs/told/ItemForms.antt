-- The form of the items' rows: each in range, at most 1,000 a queue, no change twice.
use Rattle.std.proofs.Common.{◌≡◌, ◌≢◌, ℕ, zero, suc, ◌-◌, ◌≤◌, Bool, true, false, ◌&&◌, cond, Option, Some, None}
use Rattle.std.proofs.Common.{List, [], ◌∷◌, ◌++◌, map, length, refl, sym, ap, ◌∙◌, subst, inl, inr, arith}
use Rattle.std.specs.Prelude.{AllPairs, filter, flat_map, option_map, slice_get}
use Rattle.std.specs.List.{AllPass}
use Rattle.std.specs.Option.{option_map_or}
use Rattle.std.proofs.lemmas.Bool.{and_from, and_parts, leb-true}
use Rattle.std.proofs.lemmas.List.Kept.{AllPairs-cons}
use Rattle.gate_types.specs.declared.records.Build.{Build}
use Rattle.gate_types.specs.declared.records.Item.{Item as ItemOfRow}
use Rattle.gate_types.specs.Forms.{IsLawfulContent, is_change_number, is_drawn_number, is_item_in_form}
use Rattle.gate_types.specs.Forms.{is_queue_in_form, is_revision_number}
use Rattle.gate_types.specs.Limits.{most_items}
use Rattle.gate_types.specs.Line.{Place}
use Rattle.gate_types.specs.Names.{is_name, same_name}
use Rattle.gate_types.specs.Once.{Content}
use Rattle.gate_types.specs.Rows.{item_of, item_rows, row_of}
use Rattle.gate_types.specs.Settings.{Settings}
use Rattle.gate_types.specs.Standing.{ahead_of, is_failing, next_ahead, place_of, places, places_after, with_ahead}
use Rattle.gate_types.specs.State.{Item, Queue, State}
use Rattle.gate_types.specs.Tables.{tables}
use Rattle.gate_types.specs.Rising.{In}
use Rattle.gate_schema.specs.Rows.{ItemRow, Stored}
use Rattle.gate_rows.specs.Matches.{Matches, items_of}
use Rattle.gate_book_trait.specs.Reads.{queue_named}
use Rattle.gate_found_rows.specs.Whole.{is_item_row_in_form}
use Rattle.gate_laws.proofs.Alone.{changes_once, item_changes, same_name_of}
use Rattle.gate_laws.proofs.Counts.{hits, in_times, one_part, times, times_in}
use Rattle.gate_laws.proofs.Members.{all, all_from, every, found, from_append, from_map, got, to_filter, to_map}
use Rattle.gate_laws.proofs.ItemRows.{rows_length}
use Rattle.gate_table_laws.proofs.told.Items.{items_are, keys_are, queue_of_row, row_alone, row_item}

-- ---- what is ahead of an item

-- it is one of the items
ahead_in : (bs : List Build) (items : List Item) (ahead : List Item) (ps : List Place) →
    ((i : Item) → In i ahead → In i items) → ((p : Place) → In p ps → In p.item items) →
    (p : Place) → In p (places_after bs ahead ps) → (i : Item) → In i p.ahead → In i items
ahead_in bs items ahead [] old new p m i n = absurd m
ahead_in bs items ahead (r ∷ rs) old new p m i n = elim m [
  | inl e ↦ old i (subst (λ (z : Place). In i z.ahead) (sym e) n)
  | inr t ↦ ahead_in bs items (next_ahead bs (with_ahead ahead r)) rs
      (by_failing (is_failing bs (with_ahead ahead r))) (λ z k. new z (inr k)) p t i n
]
  where
    by_failing : (f : Bool) → (j : Item) → In j (cond f ahead (ahead ++ r.item ∷ [])) → In j items
    by_failing true j k = old j k
    by_failing false j k = elim (from_append ahead (r.item ∷ []) j k) [
      | inl a ↦ old j a
      | inr a ↦ (elim a [ inl e ↦ subst (λ z. In z items) e (new r (inl refl)) | inr none ↦ absurd none ])
    ]

-- the serial of an item in form
item_drawn : (i : Item) → is_item_in_form i ≡ true → is_drawn_number i.serial ≡ true
item_drawn i h =
    (and_parts (is_drawn_number i.serial) (is_change_number i.change)
    (and_parts (is_drawn_number i.serial && is_change_number i.change) (is_revision_number i.revision) h).0).0

-- so its serial is in range
ahead_drawn : (c : Settings) (s : State) (q : Queue) → ((i : Item) → In i q.items → is_item_in_form i ≡ true) →
    (p : Place) → In p (places c s q) → option_map_or is_drawn_number (ahead_of p) true ≡ true
ahead_drawn c s q forms p m = by_last (slice_get p.ahead (length p.ahead - 1)) refl
  where
    here : (r : Place) → In r (map (place_of c s q) q.items) → In r.item q.items
    here r n =
        let at = from_map (place_of c s q) q.items r n in
        subst (λ i. In i q.items) (ap (λ (z : Place). z.item) at.2) at.1

    by_last : (o : Option Item) → slice_get p.ahead (length p.ahead - 1) ≡ o →
        option_map_or is_drawn_number (option_map (λ (i : Item). i.serial) o) true ≡ true
    by_last None e = refl
    by_last (Some i) e =
        let last = got p.ahead (length p.ahead - 1) i e in
        item_drawn i (forms i (ahead_in s.builds q.items [] (map (place_of c s q) q.items) (λ j none. absurd none)
        here p m i last))

-- ---- a queue in form

-- what is asked here of a queue
record QueueForm (q : Queue) : Type 0 where
  pub name : is_name q.name ≡ true
  pub few : length q.items ≤ most_items
  pub items : (i : Item) → In i q.items → is_item_in_form i ≡ true

-- a queue in form has it
queue_form : (q : Queue) → is_queue_in_form q ≡ true → QueueForm q
queue_form q h =
    let landings = and_parts _ _ (and_parts _ _ h).0 in
    let items = and_parts _ _ landings.0 in
    let few = and_parts _ _ items.0 in
    record {
      name = (and_parts _ _ few.0).0;
      few = leb-true (length q.items) most_items few.1;
      items = all_from is_item_in_form q.items items.1;
    }

-- the row of an item of a queue is in form
row_form : (c : Settings) (s : State) (q : Queue) → QueueForm q → (name : List ℕ) → q.name ≡ name → (i : ItemOfRow) →
    In i (item_rows c s q) → is_item_row_in_form (record { queue = name; item = i }) ≡ true
row_form c s q form name e i m =
    let place = from_map (row_of s.builds) (places c s q) i m in
    let ahead = subst (λ (z : ItemOfRow). option_map_or is_drawn_number z.ahead true ≡ true) place.2
    (ahead_drawn c s q form.items place.0 place.1) in
    and_from _ _ (and_from _ _ (subst (λ n. is_name n ≡ true) e form.name)
    (form.items (item_of i) (row_item c s q i m))) ahead

-- ---- no change twice

-- the changes of a queue's rows
abbrev changes_of : List ℕ → List ItemRow → List ℕ
changes_of name rows = map (λ (i : ItemOfRow). i.change) (items_of name rows)

-- a row more has no fewer
changes_more : (n : ℕ) (name : List ℕ) (r : ItemRow) (rows : List ItemRow) →
    times n (changes_of name rows) ≤ times n (changes_of name (r ∷ rows))
changes_more n name r rows = by_name (same_name r.queue name)
  where
    by_name : (t : Bool) → times n (changes_of name rows) ≤
        times n (map (λ (i : ItemOfRow). i.change) (map (λ (y : ItemRow). y.item)
        (cond t (r ∷ filter (λ (y : ItemRow). same_name y.queue name) rows)
        (filter (λ (y : ItemRow). same_name y.queue name) rows))))
    by_name true = omega arith
    by_name false = omega arith

-- rows of one queue alone have a change, and it is once there
rows_differ : (rows : List ItemRow) → ((name : List ℕ) (n : ℕ) → times n (changes_of name rows) ≤ 1) →
    ((r s : ItemRow) → In r rows → In s rows → r.item.change ≡ s.item.change → r.queue ≡ s.queue) →
    AllPairs (λ (r s : ItemRow). r.item.change ≢ s.item.change) rows
rows_differ [] once same = λ i j d a b. absurd (omega (arith, a, b))
rows_differ (r ∷ rs) once same =
    AllPairs-cons (λ (r s : ItemRow). r.item.change ≢ s.item.change) r rs
    (all (λ (s : ItemRow). r.item.change ≢ s.item.change) rs apart)
    (rows_differ rs (λ name n.
    let less = changes_more n name r rs in
    let most = once name n in
    omega (arith, less, most)) (λ a d ma md. same a d (inr ma) (inr md)))
  where
    apart : (s : ItemRow) → In s rs → r.item.change ≢ s.item.change
    apart s m e =
        let queue : same_name s.queue r.queue ≡ true =
        same_name_of s.queue r.queue (sym (same r s (inl refl) (inr m) e)) in
        let there = to_map (λ (y : ItemRow). y.item) (filter (λ (y : ItemRow). same_name y.queue r.queue) rs) s
        (to_filter (λ (y : ItemRow). same_name y.queue r.queue) rs s m queue) in
        let change : In r.item.change (changes_of r.queue rs) =
        subst (λ n. In n (changes_of r.queue rs)) (sym e)
        (to_map (λ (i : ItemOfRow). i.change) (items_of r.queue rs) s.item there) in
        let itself : changes_of r.queue (r ∷ rs) ≡ r.item.change ∷ changes_of r.queue rs =
        ap (λ t. map (λ (i : ItemOfRow). i.change) (map (λ (y : ItemRow). y.item)
        (cond t (r ∷ filter (λ (y : ItemRow). same_name y.queue r.queue) rs)
        (filter (λ (y : ItemRow). same_name y.queue r.queue) rs)))) (same_name_of r.queue r.queue refl) in
        let most = subst (λ l. times r.item.change l ≤ 1) itself (once r.queue r.item.change) in
        let one = hits r.item.change r.item.change refl in
        let more = times_in r.item.change (changes_of r.queue rs) change in
        omega (arith, most, one, more)

module _ (c : Settings) (x : Content) (b : Stored) (lawful : IsLawfulContent c x) (told : Matches b (tables c x)) where
  -- a queue of the content is in form
  form_of : (q : Queue) → In q x.state.queues → QueueForm q
  form_of q m = queue_form q (every (λ (q : Queue). is_queue_in_form q ≡ true) x.state.queues
      lawful.in_form.state.queues q m)

  -- all are in form
  pub items_in_form : AllPass is_item_row_in_form b.items
  items_in_form = all (λ (r : ItemRow). is_item_row_in_form r ≡ true) b.items (λ r m.
      let at = queue_of_row c x b told r m in
      row_form c x.state at.0 (form_of at.0 at.1) r.queue at.2 r.item at.3)

  -- a queue has at most 1,000
  pub items_are_few : (name : List ℕ) → length (items_of name b.items) ≤ most_items
  items_are_few name = subst (λ l. length l ≤ most_items) (sym (items_are c x b told name))
      (by_queue (queue_named x.state name) refl)
    where
      by_queue : (o : Option Queue) → queue_named x.state name ≡ o →
          length (option_map_or (item_rows c x.state) o []) ≤ most_items
      by_queue None e = omega arith
      by_queue (Some q) e =
          let at = found (λ (q : Queue). same_name q.name name) x.state.queues q e in
          subst (λ n. n ≤ most_items) (sym (rows_length c x.state q)) (form_of q at.0).few

  -- over all queues a change stands once
  once : (n : ℕ) → times n (flat_map item_changes x.state.queues) ≤ 1
  once n = let few = changes_once c x.state lawful.lawful.sound n in omega (arith, few)

  -- so it does in one
  once_in : (q : Queue) → In q x.state.queues → (n : ℕ) → times n (item_changes q) ≤ 1
  once_in q m n = by_count (times n (item_changes q)) refl
    where
      by_count : (k : ℕ) → times n (item_changes q) ≡ k → k ≤ 1
      by_count zero e = omega arith
      by_count (suc k) e =
          let here = in_times n (item_changes q) (omega (arith, e)) in
          subst (λ k. k ≤ 1) e (one_part n item_changes x.state.queues q q (once n) m m here here).1

  -- no two are of one change
  pub changes_differ : AllPairs (λ (r s : ItemRow). r.item.change ≢ s.item.change) b.items
  changes_differ = rows_differ b.items (λ name n.
      subst (λ l. times n (map (λ (i : ItemOfRow). i.change) l) ≤ 1) (sym (items_are c x b told name))
      (in_queue name n (queue_named x.state name) refl)) (λ r s mr ms e.
      let a = queue_of_row c x b told r mr in
      let d = queue_of_row c x b told s ms in
      let alone = row_alone c x.state (λ i. i.change) once a.0 d.0 r.item s.item a.1 d.1 a.3 d.3 e in
      sym a.2 ∙ ap (λ (q : Queue). q.name) alone.0 ∙ d.2)
    where
      in_queue : (name : List ℕ) (n : ℕ) (o : Option Queue) → queue_named x.state name ≡ o →
          times n (map (λ (i : ItemOfRow). i.change) (option_map_or (item_rows c x.state) o [])) ≤ 1
      in_queue name n None e = omega arith
      in_queue name n (Some q) e =
          let at = found (λ (q : Queue). same_name q.name name) x.state.queues q e in
          subst (λ l. times n l ≤ 1) (sym (keys_are c x.state (λ i. i.change) once q)) (once_in q at.0 n)

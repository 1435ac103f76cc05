-- The columns of a sound state are found by serial, and those of a queue that isn't touched stay through settling.
use Rattle.std.proofs.Common.{◌≡◌, ℕ, true, false, not, Option, Some, None, List, [], ◌∷◌, map, refl, sym, ap, ◌∙◌}
use Rattle.std.proofs.Common.{subst, true≢false, inl, inr}
use Rattle.std.specs.Prelude.{◌==◌, find}
use Rattle.std.specs.Option.{option_map_or}
use Rattle.std.proofs.lemmas.Bool.{eq-eqb, eqb-true}
use Rattle.gate_types.specs.declared.deliveries.Delivery.{Delivery}
use Rattle.gate_types.specs.declared.deliveries.Reply.{Reply}
use Rattle.gate_types.specs.Names.{same_name}
use Rattle.gate_types.specs.Settings.{Settings, are_sound}
use Rattle.gate_types.specs.State.{Item, Queue, State}
use Rattle.gate_types.specs.Line.{Place}
use Rattle.gate_types.specs.Standing.{with_ahead, next_ahead, places_after, place_of, places, all_places}
use Rattle.gate_types.specs.Step.{raw_step, accepted}
use Rattle.gate_types.specs.Lawful.{IsSound, IsLawful}
use Rattle.gate_types.specs.Rows.{row_of, item_rows}
use Rattle.gate_types.specs.Once.{Content}
use Rattle.gate_types.specs.Tables.{tables, queue_rows}
use Rattle.gate_types.specs.Rising.{In}
use Rattle.gate_laws.specs.Touch.{touched_by, is_other}
use Rattle.gate_reads.specs.Moves.{Columns, columns_at, row_by_columns, swept, tables_by}
use Rattle.gate_laws.proofs.Members.{from_map, to_map, to_flat, found, not_found, contains_in, in_contains}
use Rattle.gate_laws.proofs.Counts.{one_of}
use Rattle.gate_laws.proofs.Alone.{name_alone, same_name_of}
use Rattle.gate_laws.proofs.LiveBuildsCount.{place_serial, places_once}
use Rattle.gate_laws.proofs.RunIsLawful.{raw_step_is_sound}
use Rattle.gate_laws.proofs.RebaseIsSound.{rebase_is_sound}
use Rattle.gate_laws.proofs.SweepIsSound.{sweep_is_sound}
use Rattle.gate_laws.proofs.OtherQueuesStay.{other_queues_stay}

-- the columns of a state, by serial
abbrev pub columns_of : Settings → State → ℕ → Columns
columns_of c s n =
    option_map_or (columns_at s.builds) (find (λ p. p.item.serial == n) (all_places c s))
    (record { ahead = None; failing = false })

-- the rows of a queue's items are those by these columns
abbrev pub HasColumns : Settings → State → (ℕ → Columns) → Queue → Type 0
HasColumns c s cols q = item_rows c s q ≡ map (row_by_columns cols) q.items

-- ---- columns by serial

-- the one of its key is found by it
pub found_alone : {X : Type 0} (key : X → ℕ) (xs : List X) (x : X) → In x xs →
    ((y : X) → In y xs → key y ≡ key x → y ≡ x) → find (λ y. key y == key x) xs ≡ Some x
found_alone {X = X} key xs x m alone = by_first (find (λ y. key y == key x) xs) refl
  where
    by_first : (f : Option X) → find (λ y. key y == key x) xs ≡ f → f ≡ Some x
    by_first None e =
        absurd (true≢false (sym (eq-eqb (key x) (key x) refl) ∙ not_found (λ y. key y == key x) xs e x m))
    by_first (Some y) e =
        let there = found (λ z. key z == key x) xs y e in
        ap Some (alone y there.0 (eqb-true (key y) (key x) there.1))

place_found : (c : Settings) (s : State) → IsSound c s → (p : Place) → In p (all_places c s) →
    find (λ (x : Place). x.item.serial == p.item.serial) (all_places c s) ≡ Some p
place_found c s sound p m = found_alone place_serial (all_places c s) p m
    (λ y my e. sym (one_of place_serial (all_places c s) p y (places_once c s sound.serials_differ p.item.serial) m my
    (sym e)))

-- the rows of places among all places
rows_found : (c : Settings) (s : State) (q : Queue) → IsSound c s → (ahead is : List Item) →
    ((p : Place) → In p (places_after s.builds ahead (map (place_of c s q) is)) → In p (all_places c s)) →
    map (row_of s.builds) (places_after s.builds ahead (map (place_of c s q) is)) ≡ map (row_by_columns (columns_of c s)) is
rows_found c s q sound ahead [] h = refl
rows_found c s q sound ahead (i ∷ is) h =
    let p = with_ahead ahead (place_of c s q i) in
    let none : Columns = record { ahead = None; failing = false } in
    let here : columns_at s.builds p ≡ columns_of c s i.serial =
    sym (ap (λ (o : Option Place). option_map_or (columns_at s.builds) o none)
    (place_found c s sound p (h p (inl refl)))) in
    λ k. record {
      serial = i.serial;
      change = i.change;
      revision = i.revision;
      ahead = (here k).ahead;
      failing = (here k).failing;
    } ∷ rows_found c s q sound (next_ahead s.builds p) is (λ r m. h r (inr m)) k

pub columns_found : (c : Settings) (s : State) → IsSound c s → (q : Queue) → In q s.queues →
    HasColumns c s (columns_of c s) q
columns_found c s sound q m =
    rows_found c s q sound [] q.items (λ p mp. to_flat (places c s) s.queues q p m mp)

-- ---- tables by columns

queues_by : (c : Settings) (s : State) (cols : ℕ → Columns) (qs : List Queue) →
    ((q : Queue) → In q qs → HasColumns c s cols q) →
    map (λ q. queue_rows (item_rows c s q) q) qs ≡ map (λ (q : Queue). queue_rows (map (row_by_columns cols) q.items) q) qs
queues_by c s cols [] h = refl
queues_by c s cols (q ∷ qs) h =
    λ i. queue_rows (h q (inl refl) i) q ∷ queues_by c s cols qs (λ o m. h o (inr m)) i

-- where each queue has these columns, the tables are those by them
pub tables_are_by : (c : Settings) (x : Content) (cols : ℕ → Columns) →
    ((q : Queue) → In q x.state.queues → HasColumns c x.state cols q) → tables c x ≡ tables_by cols x
tables_are_by c x cols h = λ i. record (tables c x) { queues = queues_by c x.state cols x.state.queues h i }

-- those of a sound state by its own
pub tables_by_own : (c : Settings) (x : Content) → IsSound c x.state → tables c x ≡ tables_by (columns_of c x.state) x
tables_by_own c x sound = tables_are_by c x (columns_of c x.state) (columns_found c x.state sound)

-- ---- settling

pub swept_is_sound : (c : Settings) (s : State) (d : Delivery) (r : Reply) (t : State) → are_sound c ≡ true →
    IsLawful c s → raw_step c s d ≡ accepted r t → IsSound c (swept c t)
swept_is_sound c s d r t w lawful e =
    let raw = raw_step_is_sound c s d r t w lawful e in
    sweep_is_sound c _ (rebase_is_sound c t raw)

-- a queue that isn't touched keeps its columns
pub others_stay : (c : Settings) (s : State) (d : Delivery) (r : Reply) (t : State) → are_sound c ≡ true →
    IsLawful c s → raw_step c s d ≡ accepted r t → (q : Queue) → In q (swept c t).queues →
    is_other (touched_by c s d) q ≡ true → HasColumns c (swept c t) (columns_of c s) q
others_stay c s d r t w lawful e q m other =
    let v = swept c t in
    let after = swept_is_sound c s d r t w lawful e in
    let names : map (λ (o : Queue). o.name) v.queues ≡ map (λ (o : Queue). o.name) s.queues =
    after.queues_are_set ∙ sym lawful.sound.queues_are_set in
    let was = from_map (λ (o : Queue). o.name) s.queues q.name
    (subst (In q.name) names (to_map (λ (o : Queue). o.name) v.queues q m)) in
    let a = was.0 in
    let other_was = ap (λ n. option_map_or (λ name. not (same_name n name)) (touched_by c s d) true) was.2 ∙ other in
    let stays = other_queues_stay c s d r t a lawful e (in_contains s.queues a was.1) other_was in
    let same : a ≡ q =
    name_alone c v w after a q (contains_in v.queues a stays.there) m (same_name_of a.name q.name was.2) in
    subst (HasColumns c v (columns_of c s)) same (stays.rows ∙ columns_found c s lawful.sound a was.1)

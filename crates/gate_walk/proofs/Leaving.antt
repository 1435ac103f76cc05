-- What a delivery that takes an item out leaves of its queue.
use Rattle.std.proofs.Common.{◌≡◌, ℕ, Bool, true, false, not, ◌&&◌, ◌||◌, cond, Option, Some, List, [], ◌∷◌, ◌++◌}
use Rattle.std.proofs.Common.{map, inl, inr, ⊎_elim, refl, sym, ap, ◌∙◌, subst, true≢false}
use Rattle.std.specs.Prelude.{◌==◌, nat_lt, filter, find, unwrap_or}
use Rattle.std.specs.List.{list_any}
use Rattle.std.proofs.lemmas.Bool.{and_parts, eqb-true, eq-eqb}
use Rattle.gate_types.specs.declared.records.Change.{Change}
use Rattle.gate_types.specs.declared.records.Need.{Need}
use Rattle.gate_types.specs.declared.records.Stage.TheVariants as stage
use Rattle.gate_types.specs.declared.records.Verdict.TheVariants as verdict
use Rattle.gate_types.specs.Settings.{Settings}
use Rattle.gate_types.specs.State.{Item, Queue, State, put_by, put_change, has_change, change_of, is_landed, plan_in}
use Rattle.gate_types.specs.State.{plan_of}
use Rattle.gate_types.specs.Line.{Place}
use Rattle.gate_types.specs.Standing.{needs_of, place_of}
use Rattle.gate_types.specs.Sweep.{without_runs, without_plans}
use Rattle.gate_types.specs.Step.{left_queue, leave, with_stage, revised, landed_queue, landed_plan, with_landing}
use Rattle.gate_types.specs.Lawful.{IsSound}
use Rattle.gate_types.specs.Rising.{In}
use Rattle.gate_walk.specs.Rescan.{need_behind, place_after_landing}
use Rattle.gate_walk.specs.Kinds.{IsIn, ItemsLeave}
use Rattle.gate_laws.proofs.Tests.{flipped}
use Rattle.gate_laws.proofs.Plans.{plan_stays, plan_kept, same_place, other_stays}
use Rattle.gate_laws.proofs.Touches.{changes_apart}
use Rattle.gate_laws.proofs.Members.{any_from, any_to, from_append, to_map, to_left, to_right}
use Rattle.gate_laws.proofs.RecordedChange.{number_itself, open_unlanded}
use Rattle.gate_walk.proofs.Once.{Once}
use Rattle.gate_walk.proofs.Calm.{items_once, item_open}

-- ---- items of one change

one_item : (xs : List Item) (a b : Item) → Once (map (λ (i : Item). i.change) xs) → In a xs → In b xs → a.change ≡ b.change → a ≡ b
one_item [] a b o ma mb e = absurd ma
one_item (x ∷ xs) a b o ma mb e =
    ⊎_elim
    (λ (ea : x ≡ a). ⊎_elim (λ (eb : x ≡ b). sym ea ∙ eb)
    (λ (rb : In b xs). absurd (o.0 (subst (λ y. In y (map (λ (i : Item). i.change) xs)) (sym (ap (λ (i : Item). i.change) ea ∙ e)) (to_map (λ (i : Item). i.change) xs b rb)))) mb)
    (λ (ra : In a xs). ⊎_elim
    (λ (eb : x ≡ b). absurd (o.0 (subst (λ y. In y (map (λ (i : Item). i.change) xs)) (e ∙ sym (ap (λ (i : Item). i.change) eb)) (to_map (λ (i : Item). i.change) xs a ra))))
    (λ (rb : In b xs). one_item xs a b o.1 ra rb e) mb) ma

-- no other item is of its change
others_differ : (is js : List Item) (i j : Item) → Once (map (λ (x : Item). x.change) (is ++ i ∷ js)) → In j (is ++ js) → (i.change == j.change) ≡ false
others_differ [] js i j o m = at (i.change == j.change) refl
  where
    at : (t : Bool) → (i.change == j.change) ≡ t → (i.change == j.change) ≡ false
    at false e = e
    at true e = absurd (o.0 (subst (λ y. In y (map (λ (x : Item). x.change) js)) (sym (eqb-true i.change j.change e)) (to_map (λ (x : Item). x.change) js j m)))
others_differ (x ∷ is) js i j o m =
    ⊎_elim (λ (e : x ≡ j). at (i.change == j.change) refl e) (λ (r : In j (is ++ js)). others_differ is js i j o.1 r) m
  where
    at : (t : Bool) → (i.change == j.change) ≡ t → x ≡ j → (i.change == j.change) ≡ false
    at false e s = e
    at true e s = absurd (o.0 (subst (λ y. In y (map (λ (y : Item). y.change) (is ++ i ∷ js))) (eqb-true i.change j.change e ∙ ap (λ (y : Item). y.change) (sym s)) (to_map (λ (y : Item). y.change) (is ++ i ∷ js) i (to_right is (i ∷ js) i (inl refl)))))

stay_all : (n : ℕ) (xs : List Item) → ((j : Item) → In j xs → (n == j.change) ≡ false) → filter (λ j. not (j.change == n)) xs ≡ xs
stay_all n [] h = refl
stay_all n (x ∷ xs) h = λ k. cond (not (flip (x.change == n) refl k)) (x ∷ stay_all n xs (λ j m. h j (inr m)) k) (stay_all n xs (λ j m. h j (inr m)) k)
  where
    flip : (t : Bool) → (x.change == n) ≡ t → (x.change == n) ≡ false
    flip false e = e
    flip true e = absurd (true≢false (sym (eq-eqb n x.change (sym (eqb-true x.change n e))) ∙ h x (inl refl)))

left_items : (n : ℕ) (is js : List Item) (i : Item) → i.change ≡ n → ((j : Item) → In j (is ++ js) → (n == j.change) ≡ false) → filter (λ j. not (j.change == n)) (is ++ i ∷ js) ≡ is ++ js
left_items n [] js i e h = ap (λ t. cond (not t) (i ∷ filter (λ j. not (j.change == n)) js) (filter (λ j. not (j.change == n)) js)) (eq-eqb i.change n e) ∙ stay_all n js h
left_items n (x ∷ is) js i e h = λ k. cond (not (flip (x.change == n) refl k)) (x ∷ left_items n is js i e (λ j m. h j (inr m)) k) (left_items n is js i e (λ j m. h j (inr m)) k)
  where
    flip : (t : Bool) → (x.change == n) ≡ t → (x.change == n) ≡ false
    flip false e = e
    flip true e = absurd (true≢false (sym (eq-eqb n x.change (sym (eqb-true x.change n e))) ∙ h x (inl refl)))

-- ---- the builds of its serial

abbrev leaves : State → ℕ → ℕ → Bool
leaves s n serial = list_any (λ q. list_any (λ i. i.change == n && i.serial == serial) q.items) s.queues

pub one_leaves : (c : Settings) (s : State) → IsSound c s → (q : Queue) (i : Item) (n : ℕ) → In q s.queues → In i q.items → i.change ≡ n → (m : ℕ) → leaves s n m ≡ (m == i.serial)
one_leaves c s sound q i n mq mi e m = at (leaves s n m) (m == i.serial) refl refl
  where
    own : has_change q.items n ≡ true
    own = any_to (λ (j : Item). j.change == n) q.items i mi (eq-eqb i.change n e)

    at : (x y : Bool) → leaves s n m ≡ x → (m == i.serial) ≡ y → leaves s n m ≡ (m == i.serial)
    at true y ex ey =
        let fq = any_from (λ (o : Queue). list_any (λ j. j.change == n && j.serial == m) o.items) s.queues ex in
        let fi = any_from (λ (j : Item). j.change == n && j.serial == m) fq.0.items fq.2 in
        let both = and_parts (fi.0.change == n) (fi.0.serial == m) fi.2 in
        let same = changes_apart c s sound n fq.0 q fq.1 mq (any_to (λ (j : Item). j.change == n) fq.0.items fi.0 fi.1 both.0) own in
        let it = one_item q.items fi.0 i (items_once c s sound q mq) (subst (λ (o : Queue). In fi.0 o.items) same fi.1) mi (eqb-true fi.0.change n both.0 ∙ sym e) in
        ex ∙ sym (eq-eqb m i.serial (sym (eqb-true fi.0.serial m both.1) ∙ ap (λ (j : Item). j.serial) it))
    at false true ex ey =
        absurd (true≢false (sym (any_to (λ (o : Queue). list_any (λ j. j.change == n && j.serial == m) o.items) s.queues q mq
        (any_to (λ (j : Item). j.change == n && j.serial == m) q.items i mi (λ k. eq-eqb i.change n e k && eq-eqb i.serial m (sym (eqb-true m i.serial ey)) k))) ∙ ex))
    at false false ex ey = ex ∙ sym ey

stopped : (c : Settings) (s : State) → IsSound c s → (q : Queue) (i : Item) (n : ℕ) → In q s.queues → In i q.items → i.change ≡ n → without_runs (leaves s n) s.builds ≡ without_runs (λ m. m == i.serial) s.builds
stopped c s sound q i n mq mi e = ap (λ (f : ℕ → Bool). without_runs f s.builds) (λ k m. one_leaves c s sound q i n mq mi e m k)

-- ---- a change put in place of another

find_put : (k : Change) (xs : List Change) (m : ℕ) → find (λ x. x.number == m) (put_by (λ x. x.number) k xs) ≡ cond (k.number == m) (Some k) (find (λ x. x.number == m) xs)
find_put k [] m = refl
find_put k (y ∷ ys) m = by_same (k.number == y.number) refl (find_put k ys m)
  where
    by_both : (a b : Bool) → (k.number == m) ≡ a → (y.number == m) ≡ b → (k.number == y.number) ≡ false → (o : Option Change) → cond b (Some y) (cond a (Some k) o) ≡ cond a (Some k) (cond b (Some y) o)
    by_both true true ea eb e o = absurd (true≢false (sym (eq-eqb k.number y.number (eqb-true k.number m ea ∙ sym (eqb-true y.number m eb))) ∙ e))
    by_both true false ea eb e o = refl
    by_both false b ea eb e o = refl

    by_less : (t : Bool) → (k.number == y.number) ≡ false → find (λ x. x.number == m) (put_by (λ x. x.number) k ys) ≡ cond (k.number == m) (Some k) (find (λ x. x.number == m) ys) →
        find (λ x. x.number == m) (cond t (k ∷ y ∷ ys) (y ∷ put_by (λ x. x.number) k ys)) ≡ cond (k.number == m) (Some k) (cond (y.number == m) (Some y) (find (λ x. x.number == m) ys))
    by_less true e h = refl
    by_less false e h = ap (λ o. cond (y.number == m) (Some y) o) h ∙ by_both (k.number == m) (y.number == m) refl refl e (find (λ x. x.number == m) ys)

    by_own : (a : Bool) → (k.number == m) ≡ a → (k.number == y.number) ≡ true → cond a (Some k) (find (λ x. x.number == m) ys) ≡ cond a (Some k) (cond (y.number == m) (Some y) (find (λ x. x.number == m) ys))
    by_own true ea e = refl
    by_own false ea e = ap (λ t. cond t (Some y) (find (λ x. x.number == m) ys)) (sym (ap (λ z. z == m) (sym (eqb-true k.number y.number e)) ∙ ea))

    by_same : (t : Bool) → (k.number == y.number) ≡ t → find (λ x. x.number == m) (put_by (λ x. x.number) k ys) ≡ cond (k.number == m) (Some k) (find (λ x. x.number == m) ys) →
        find (λ x. x.number == m) (cond (k.number == y.number) (k ∷ ys) (cond (nat_lt k.number y.number) (k ∷ y ∷ ys) (y ∷ put_by (λ x. x.number) k ys))) ≡ cond (k.number == m) (Some k) (cond (y.number == m) (Some y) (find (λ x. x.number == m) ys))
    by_same true e h = ap (λ t. find (λ x. x.number == m) (cond t (k ∷ ys) (cond (nat_lt k.number y.number) (k ∷ y ∷ ys) (y ∷ put_by (λ x. x.number) k ys)))) e ∙ by_own (k.number == m) refl e
    by_same false e h = ap (λ t. find (λ x. x.number == m) (cond t (k ∷ ys) (cond (nat_lt k.number y.number) (k ∷ y ∷ ys) (y ∷ put_by (λ x. x.number) k ys)))) e ∙ by_less (nat_lt k.number y.number) e h

change_put : (k : Change) (s : State) (m : ℕ) → change_of (put_change k s) m ≡ cond (k.number == m) k (change_of s m)
change_put k s m =
    let none : Change = record { number = m; project = []; revision = 0; stage = stage.Closed; needs = [] } in
    ap (λ (o : Option Change). unwrap_or o none) (find_put k s.changes m) ∙ at (k.number == m)
  where
    at : (t : Bool) → unwrap_or (cond t (Some k) (find (λ x. x.number == m) s.changes)) (record { number = m; project = []; revision = 0; stage = stage.Closed; needs = [] }) ≡ cond t k (change_of s m)
    at true = refl
    at false = refl

-- ---- the other items' places

-- of a change that isn't landed, as it wasn't before
kept_place : (c : Settings) (s : State) (k : Change) (q o : Queue) (i j : Item) → k.number ≡ i.change → is_landed k ≡ false → is_landed (change_of s i.change) ≡ false → o.landings ≡ q.landings → (i.change == j.change) ≡ false →
    place_of c (put_change k s) o j ≡ place_of c s q j
kept_place c s k q o i j en lk ls eo d =
    let t = put_change k s in
    let same : change_of t j.change ≡ change_of s j.change = change_put k s j.change ∙ ap (λ x. cond x k (change_of s j.change)) (ap (λ n. n == j.change) en ∙ d) in
    λ x. record {
      landings = eo x;
      ahead = [];
      item = j;
      needs = (ap (λ (z : Change). map (λ m. let one : Need = record { change = m; landed = is_landed (change_of t m) } in one) z.needs) same ∙ needs (change_of s j.change).needs) x;
      jobs = (plan_of s j.serial).jobs;
      fast = (plan_of s j.serial).fast;
    }
  where
    flag : (m : ℕ) (t : Bool) → (k.number == m) ≡ t → is_landed (change_of (put_change k s) m) ≡ is_landed (change_of s m)
    flag m true e = ap is_landed (change_put k s m ∙ ap (λ x. cond x k (change_of s m)) e) ∙ lk ∙ sym (ap (λ n. is_landed (change_of s n)) (sym (sym en ∙ eqb-true k.number m e)) ∙ ls)
    flag m false e = ap is_landed (change_put k s m ∙ ap (λ x. cond x k (change_of s m)) e)

    needs : (ms : List ℕ) → map (λ m. let one : Need = record { change = m; landed = is_landed (change_of (put_change k s) m) } in one) ms ≡ map (λ m. let one : Need = record { change = m; landed = is_landed (change_of s m) } in one) ms
    needs [] = refl
    needs (m ∷ ms) = λ x. (let one : Need = record { change = m; landed = flag m (k.number == m) refl x } in one) ∷ needs ms x

-- of one that has landed
landed_other : (c : Settings) (s : State) (k : Change) (q o : Queue) (i j : Item) → k.number ≡ i.change → is_landed k ≡ true → o.landings ≡ q.landings ++ record { serial = i.serial; change = i.change; revision = i.revision } ∷ [] → (i.change == j.change) ≡ false →
    place_of c (put_change k s) o j ≡ place_after_landing i (place_of c s q j)
landed_other c s k q o i j en lk eo d =
    let t = put_change k s in
    let same : change_of t j.change ≡ change_of s j.change = change_put k s j.change ∙ ap (λ x. cond x k (change_of s j.change)) (ap (λ n. n == j.change) en ∙ d) in
    λ x. record {
      landings = eo x;
      ahead = [];
      item = j;
      needs = (ap (λ (z : Change). map (λ m. let one : Need = record { change = m; landed = is_landed (change_of t m) } in one) z.needs) same ∙ needs (change_of s j.change).needs) x;
      jobs = (plan_of s j.serial).jobs;
      fast = (plan_of s j.serial).fast;
    }
  where
    yes : (x : Bool) → x || true ≡ true
    yes true = refl
    yes false = refl

    off : (x : Bool) → x || false ≡ x
    off true = refl
    off false = refl

    flag : (m : ℕ) (t : Bool) → (k.number == m) ≡ t → is_landed (change_of (put_change k s) m) ≡ (is_landed (change_of s m) || i.change == m)
    flag m true e = ap is_landed (change_put k s m ∙ ap (λ x. cond x k (change_of s m)) e) ∙ lk ∙ sym (ap (λ x. is_landed (change_of s m) || x) (ap (λ n. n == m) (sym en) ∙ e) ∙ yes (is_landed (change_of s m)))
    flag m false e = ap is_landed (change_put k s m ∙ ap (λ x. cond x k (change_of s m)) e) ∙ sym (ap (λ x. is_landed (change_of s m) || x) (ap (λ n. n == m) (sym en) ∙ e) ∙ off (is_landed (change_of s m)))

    needs : (ms : List ℕ) → map (λ m. let one : Need = record { change = m; landed = is_landed (change_of (put_change k s) m) } in one) ms ≡ map (need_behind i.change) (map (λ m. let one : Need = record { change = m; landed = is_landed (change_of s m) } in one) ms)
    needs [] = refl
    needs (m ∷ ms) = λ x. (let one : Need = record { change = m; landed = flag m (k.number == m) refl x } in one) ∷ needs ms x

each : {X : Type 0} (f g : Item → X) (xs : List Item) → ((j : Item) → In j xs → f j ≡ g j) → map f xs ≡ map g xs
each f g [] h = refl
each f g (x ∷ xs) h = λ k. h x (inl refl) k ∷ each f g xs (λ j m. h j (inr m)) k

map_twice : (f : Place → Place) (g : Item → Place) (xs : List Item) → map (λ j. f (g j)) xs ≡ map f (map g xs)
map_twice f g [] = refl
map_twice f g (x ∷ xs) = ap (λ l. f (g x) ∷ l) (map_twice f g xs)

-- ---- each delivery

-- what is the same for all of them
record Gone (c : Settings) (s : State) (q : Queue) (is js : List Item) (i : Item) : Type 0 where
  items : filter (λ j. not (j.change == i.change)) q.items ≡ is ++ js
  builds : without_runs (leaves s i.change) s.builds ≡ without_runs (λ n. n == i.serial) s.builds
  differ : (j : Item) → In j (is ++ js) → (i.change == j.change) ≡ false
  open_before : is_landed (change_of s i.change) ≡ false
  stay : (j : Item) → In j (is ++ js) → leaves s i.change j.serial ≡ false
  apart : (j : Item) → In j (is ++ js) → i.serial == j.serial ≡ false

-- an item beside another is one of all
other_in : (is js : List Item) (i j : Item) → In j (is ++ js) → In j (is ++ i ∷ js)
other_in is js i j m = elim (from_append is js j m) [ inl a ↦ to_left is (i ∷ js) j a | inr b ↦ to_right is (i ∷ js) j (inr b) ]

gone : (c : Settings) (s : State) (q : Queue) (is : List Item) (i : Item) (js : List Item) → IsIn c s q is i js → Gone c s q is js i
gone c s q is i js h =
    let mq : In q s.queues = subst (λ (l : List Queue). In q l) (sym h.queues) (to_right h.before (q ∷ h.after) q (inl refl)) in
    let mi : In i q.items = subst (λ (l : List Item). In i l) (sym h.items) (to_right is (i ∷ js) i (inl refl)) in
    let o = subst (λ (l : List Item). Once (map (λ (x : Item). x.change) l)) h.items (items_once c s h.sound q mq) in
    let differ : (j : Item) → In j (is ++ js) → (i.change == j.change) ≡ false = λ j m. others_differ is js i j o m in
    let stay : (j : Item) → In j (is ++ js) → leaves s i.change j.serial ≡ false =
    λ j m. other_stays c s h.sound i.change q mq j (subst (In j) (sym h.items) (other_in is js i j m)) (flipped i.change j.change (differ j m)) in
    record {
      items = ap (filter (λ j. not (j.change == i.change))) h.items ∙ left_items i.change is js i refl differ;
      builds = stopped c s h.sound q i i.change mq mi refl;
      differ = differ;
      open_before = item_open c s h.sound q mq i mi;
      stay = stay;
      apart = λ j m. flipped j.serial i.serial (sym (one_leaves c s h.sound q i i.change mq mi refl j.serial) ∙ stay j m);
    }

-- without the plan of the item that left, the others are placed as with it
unplanned : (c : Settings) (s t : State) (o : Queue) (n : ℕ) (xs : List Item) → ((j : Item) → In j xs → leaves s n j.serial ≡ false) → ((j : Item) → needs_of t j.change ≡ needs_of s j.change) → t.plans ≡ without_plans (leaves s n) s.plans →
    map (place_of c t o) xs ≡ map (place_of c s o) xs
unplanned c s t o n xs h needs plans = each (place_of c t o) (place_of c s o) xs
    (λ j m. same_place c s t o o j refl (needs j) (ap (λ ps. plan_in ps j.serial) plans ∙ plan_stays (leaves s n) s.plans j.serial (h j m)))

pub items_leave : ItemsLeave
items_leave = record {
  withdrawn = λ c s q is i js h. let g = gone c s q is i js h in
      record { items = g.items; builds = g.builds; places = unplanned c s (leave verdict.Withdrawn i.change s) q i.change (is ++ js) g.stay (λ j. refl) refl };
  closed = λ c s q is i js h.
      let g = gone c s q is i js h in
      let k : Change = record (change_of s i.change) { stage = stage.Closed } in
      record {
        items = g.items;
        builds = g.builds;
        places = unplanned c (with_stage stage.Closed i.change s) (with_stage stage.Closed i.change (leave verdict.Closed i.change s)) q i.change (is ++ js) g.stay (λ j. refl) refl
            ∙ each (place_of c (with_stage stage.Closed i.change s) (left_queue verdict.Closed i.change q)) (place_of c s q) (is ++ js)
            (λ j m. kept_place c s k q (left_queue verdict.Closed i.change q) i j (number_itself s i.change) refl g.open_before refl (g.differ j m));
      };
  superseded = λ c s q is i js k h e o.
      let g = gone c s q is i js h in
      record {
        items = ap (λ n. filter (λ j. not (j.change == n)) q.items) e ∙ g.items;
        builds = ap (λ n. without_runs (leaves s n) s.builds) e ∙ g.builds;
        places = unplanned c (put_change k s) (revised k s) q k.number (is ++ js) (λ j m. ap (λ n. leaves s n j.serial) e ∙ g.stay j m) (λ j. refl) refl
            ∙ each (place_of c (put_change k s) (left_queue verdict.Superseded k.number q)) (place_of c s q) (is ++ js)
            (λ j m. kept_place c s k q (left_queue verdict.Superseded k.number q) i j e (open_unlanded k o) g.open_before refl (g.differ j m));
      };
  refused = λ c s q is i js h. let g = gone c s q is i js h in
      record { items = g.items; builds = g.builds; places = unplanned c s (leave verdict.Refused i.change s) q i.change (is ++ js) g.stay (λ j. refl) refl };
  landed = λ c s q is i js n h.
      let g = gone c s q is i js h in
      let k : Change = record (change_of s i.change) { stage = stage.Landed } in
      let o = landed_queue c i (left_queue (verdict.Landed n) i.change q) in
      record {
        items = g.items;
        builds = g.builds;
        places = each (place_of c (with_landing c n (record { queue = q; item = i }) s) o) (place_of c (with_stage stage.Landed i.change s) o) (is ++ js)
            (λ j m. same_place c (with_stage stage.Landed i.change s) (with_landing c n (record { queue = q; item = i }) s) o o j refl refl
            (plan_kept (landed_plan s i.serial) (without_plans (leaves s i.change) s.plans) j.serial (g.apart j m) ∙ plan_stays (leaves s i.change) s.plans j.serial (g.stay j m)))
            ∙ each (place_of c (with_stage stage.Landed i.change s) o) (λ j. place_after_landing i (place_of c s q j)) (is ++ js)
            (λ j m. landed_other c s k q o i j (number_itself s i.change) refl refl (g.differ j m))
            ∙ map_twice (place_after_landing i) (place_of c s q) (is ++ js);
      };
}

-- The row of a change that enters its queue stands behind the others.
use Rattle.std.proofs.Common.{◌≡◌, ℕ, suc, ◌-◌, Bool, true, false, not, ◌&&◌, ◌||◌, cond, Option, Some, None, List}
use Rattle.std.proofs.Common.{[], ◌∷◌, ◌++◌, map, length, refl, sym, ap, ◌∙◌, arith}
use Rattle.std.specs.Prelude.{◌+◌, filter, option_map, option_and_then, slice_get, ◌==◌, ◌≢◌, All}
use Rattle.std.specs.List.{list_any, list_all, AllPass}
use Rattle.std.specs.Option.{option_map_or}
use Rattle.std.proofs.lemmas.Bool.{eqb-true, not-true, ne_eqb, or_parts}
use Rattle.std.proofs.lemmas.List.Elements.{All-head, All-tail}
use Rattle.gate_types.specs.declared.records.Item.{Item as ItemRow}
use Rattle.gate_types.specs.declared.records.Build.{Build}
use Rattle.gate_types.specs.declared.records.Need.{Need}
use Rattle.gate_types.specs.declared.records.Plan.{Plan}
use Rattle.gate_types.specs.declared.config.Job.{Job}
use Rattle.gate_types.specs.Names.{same_name}
use Rattle.gate_types.specs.Settings.{Settings}
use Rattle.gate_types.specs.State.{Item, Queue, State, put_by, has_change}
use Rattle.gate_types.specs.Line.{Place, same_entries, line, ran_on}
use Rattle.gate_types.specs.Slot.{is_blocked, are_met_by, counts, raw_slot_of, outcomes_of, slot_of_outcomes}
use Rattle.gate_types.specs.Slot.{is_failed_slot}
use Rattle.gate_types.specs.Standing.{is_failing, places, places_after, place_of, with_ahead, next_ahead, needs_of}
use Rattle.gate_types.specs.declared.records.Ready.{Ready}
use Rattle.gate_types.specs.Admit.{next_item, next_plan, with_item, entered}
use Rattle.gate_types.specs.Rows.{row_of, item_rows}
use Rattle.gate_types.specs.Lawful.{IsDistinct}
use Rattle.gate_types.specs.Rising.{In}
use Rattle.gate_laws.proofs.Plans.{plan_kept, replanned}
use Rattle.gate_laws.proofs.Places.{ahead_end}
use Rattle.gate_admission.specs.Enters.{row_of_change, is_met_by_rows, ahead_after, ahead_of_next, entering_row}

-- ---- what is ahead behind some places

places_push : (bs : List Build) (ahead : List Item) (ps : List Place) (p : Place) →
    places_after bs ahead (ps ++ p ∷ []) ≡ places_after bs ahead ps ++ with_ahead (ahead_end bs ahead ps) p ∷ []
places_push bs ahead [] p = refl
places_push bs ahead (x ∷ ps) p = ap (λ (r : List Place). with_ahead ahead x ∷ r)
    (places_push bs (next_ahead bs (with_ahead ahead x)) ps p)

-- the serial of the last of some items
abbrev last_of : List Item → Option ℕ
last_of is = option_map (λ (i : Item). i.serial) (slice_get is (length is - 1))

get_last : {X : Type 0} (xs : List X) (x : X) → slice_get (xs ++ x ∷ []) (length xs) ≡ Some x
get_last [] x = refl
get_last (y ∷ xs) x = get_last xs x

pub length_push : {X : Type 0} (xs : List X) (x : X) → length (xs ++ x ∷ []) ≡ suc (length xs)
length_push [] x = refl
length_push (y ∷ xs) x = ap suc (length_push xs x)

last_push : {X : Type 0} (xs : List X) (x : X) → slice_get (xs ++ x ∷ []) (length (xs ++ x ∷ []) - 1) ≡ Some x
last_push xs x =
    let less : length (xs ++ x ∷ []) - 1 ≡ length xs = omega (arith, length_push xs x) in
    ap (slice_get (xs ++ x ∷ [])) less ∙ get_last xs x

abbrev end_by : Option ℕ → List ItemRow → Option ℕ
end_by o [] = o
end_by o (r ∷ rs) = end_by (ahead_after r) rs

-- by the rows
ahead_by_rows : (bs : List Build) (ahead : List Item) (ps : List Place) →
    last_of (ahead_end bs ahead ps) ≡ end_by (last_of ahead) (map (row_of bs) (places_after bs ahead ps))
ahead_by_rows bs ahead [] = refl
ahead_by_rows bs ahead (p ∷ ps) =
    let x = with_ahead ahead p in
    ahead_by_rows bs (next_ahead bs x) ps ∙ ap
    (λ (o : Option ℕ). end_by o (map (row_of bs) (places_after bs (next_ahead bs x) ps)))
    (by_test (is_failing bs x))
  where
    by_test : (b : Bool) → last_of (cond b ahead (ahead ++ p.item ∷ [])) ≡ cond b (last_of ahead) (Some p.item.serial)
    by_test true = refl
    by_test false = ap (option_map (λ (i : Item). i.serial)) (last_push ahead p.item)

-- by the last row
end_last : (o : Option ℕ) (r : ItemRow) (rs : List ItemRow) →
    end_by o (r ∷ rs) ≡ option_and_then ahead_after (slice_get (r ∷ rs) (length rs))
end_last o r [] = refl
end_last o r (x ∷ rs) = end_last (ahead_after r) x rs

end_is : (rs : List ItemRow) → end_by None rs ≡ ahead_of_next rs
end_is [] = refl
end_is (r ∷ rs) =
    let less : length rs ≡ suc (length rs) - 1 = omega arith in
    end_last None r rs ∙ ap (λ n. option_and_then ahead_after (slice_get (r ∷ rs) n)) less

-- ---- which changes are ahead

has_push : (is : List Item) (i : Item) (m : ℕ) → has_change (is ++ i ∷ []) m ≡ (has_change is m || i.change == m)
has_push [] i m = by_test (i.change == m)
  where
    by_test : (b : Bool) → (b || false) ≡ b
    by_test true = refl
    by_test false = refl
has_push (x ∷ is) i m = ap (λ t. x.change == m || t) (has_push is i m)
    ∙ assoc (x.change == m) (has_change is m) (i.change == m)
  where
    assoc : (a b d : Bool) → (a || (b || d)) ≡ (a || b || d)
    assoc true b d = refl
    assoc false b d = refl

-- a row of the change that isn't failing
abbrev passing : ℕ → ItemRow → Bool
passing m r = r.change == m && not r.failing

ahead_has : (bs : List Build) (m : ℕ) (ahead : List Item) (ps : List Place) →
    has_change (ahead_end bs ahead ps) m ≡ (has_change ahead m || list_any (passing m)
    (map (row_of bs) (places_after bs ahead ps)))
ahead_has bs m ahead [] = by_test (has_change ahead m)
  where
    by_test : (b : Bool) → b ≡ (b || false)
    by_test true = refl
    by_test false = refl
ahead_has bs m ahead (p ∷ ps) =
    let x = with_ahead ahead p in
    let rest = list_any (passing m) (map (row_of bs) (places_after bs (next_ahead bs x) ps)) in
    ahead_has bs m (next_ahead bs x) ps ∙ by_test (is_failing bs x) rest
  where
    table : (a b d : Bool) → (a || b || d) ≡ (a || (b && true || d))
    table true b d = refl
    table false true d = refl
    table false false d = refl

    skip : (a b d : Bool) → (a || d) ≡ (a || (b && false || d))
    skip true b d = refl
    skip false true d = refl
    skip false false d = refl

    by_test : (b : Bool) (rest : Bool) → (has_change (cond b ahead (ahead ++ p.item ∷ [])) m || rest) ≡
        (has_change ahead m || (p.item.change == m && not b || rest))
    by_test true rest = skip (has_change ahead m) (p.item.change == m) rest
    by_test false rest = ap (λ t. t || rest) (has_push ahead p.item m)
        ∙ table (has_change ahead m) (p.item.change == m) rest

-- of a change that stands once
abbrev Apart : List ItemRow → Type 0
Apart [] = Unit {0}
Apart (r ∷ rs) = (list_any (λ (x : ItemRow). x.change == r.change) rs ≡ false) × Apart rs

no_other : (m : ℕ) (r : ItemRow) (rs : List ItemRow) → r.change == m ≡ true →
    list_any (λ (x : ItemRow). x.change == r.change) rs ≡ false → list_any (passing m) rs ≡ false
no_other m r [] e h = refl
no_other m r (x ∷ rs) e h =
    let both = or_parts (x.change == r.change) (list_any (λ (x : ItemRow). x.change == r.change) rs) h in
    ap (λ t. t && not x.failing || list_any (passing m) rs)
    (ap (λ n. x.change == n) (sym (eqb-true r.change m e)) ∙ both.0) ∙ no_other m r rs e both.1

found_once : (m : ℕ) (rs : List ItemRow) → Apart rs →
    list_any (passing m) rs ≡ option_map_or (λ (r : ItemRow). not r.failing) (row_of_change m rs) false
found_once m [] a = refl
found_once m (r ∷ rs) a = by_test (r.change == m) refl (found_once m rs a.1)
  where
    or_false : (b d : Bool) → d ≡ false → (b || d) ≡ b
    or_false true d e = refl
    or_false false d e = e

    by_test : (b : Bool) → r.change == m ≡ b →
        list_any (passing m) rs ≡ option_map_or (λ (r : ItemRow). not r.failing) (row_of_change m rs) false →
        (b && not r.failing || list_any (passing m) rs) ≡
        option_map_or (λ (r : ItemRow). not r.failing) (cond b (Some r) (row_of_change m rs)) false
    by_test true e h = or_false (not r.failing) (list_any (passing m) rs) (no_other m r rs e a.0)
    by_test false e h = h

-- the rows have the changes of the items
abbrev rows_from : Settings → State → Queue → List Item → List Item → List ItemRow
rows_from c s q ahead is = map (row_of s.builds) (places_after s.builds ahead (map (place_of c s q) is))

abbrev ApartItems : List Item → Type 0
ApartItems [] = Unit {0}
ApartItems (i ∷ is) = (has_change is i.change ≡ false) × ApartItems is

any_rows : (c : Settings) (s : State) (q : Queue) (m : ℕ) (ahead is : List Item) →
    list_any (λ (x : ItemRow). x.change == m) (rows_from c s q ahead is) ≡ has_change is m
any_rows c s q m ahead [] = refl
any_rows c s q m ahead (i ∷ is) = ap (λ t. i.change == m || t)
    (any_rows c s q m (next_ahead s.builds (with_ahead ahead (place_of c s q i))) is)

apart_rows : (c : Settings) (s : State) (q : Queue) (ahead is : List Item) → ApartItems is →
    Apart (rows_from c s q ahead is)
apart_rows c s q ahead [] h = tt
apart_rows c s q ahead (i ∷ is) h =
    let next = next_ahead s.builds (with_ahead ahead (place_of c s q i)) in
    (any_rows c s q i.change next is ∙ h.0, apart_rows c s q next is h.1)

none_has : (m : ℕ) (is : List Item) → All (λ y. m ≢ y) (map (λ (i : Item). i.change) is) → has_change is m ≡ false
none_has m [] h = refl
none_has m (i ∷ is) h =
    let first : m ≢ i.change = All-head (λ y. m ≢ y) i.change (map (λ (i : Item). i.change) is) h in
    ap (λ t. t || has_change is m) (ne_eqb i.change m (λ e. first (sym e)))
    ∙ none_has m is (All-tail (λ y. m ≢ y) i.change (map (λ (i : Item). i.change) is) h)

apart_items : (is : List Item) → IsDistinct (map (λ (i : Item). i.change) is) → ApartItems is
apart_items [] h = tt
apart_items (i ∷ is) h = (
  none_has i.change is (λ k d b. h 0 (suc k) d (omega arith) (omega (arith, b))),
  apart_items is (λ j k d a b. h (suc j) (suc k) d (omega (arith, a)) (omega (arith, b))),
)

-- ---- an item of which no build tells fails only where it is blocked

and_false : (b : Bool) → (b && false) ≡ false
and_false true = refl
and_false false = refl

no_outcomes : (bs : List Build) (p : Place) (job : Job) → AllPass (λ b. not (b.serial == p.item.serial)) bs →
    outcomes_of bs p job ≡ []
no_outcomes [] p job h = refl
no_outcomes (b ∷ bs) p job h =
    let other = not-true (b.serial == p.item.serial)
    (All-head (λ (b : Build). not (b.serial == p.item.serial) ≡ true) b bs h) in
    let counting : counts p b ≡ false = ap (λ t. b.live && t && not (is_blocked p) && same_entries
    (ran_on p.landings b) (line p)) other ∙ ap
    (λ t. t && not (is_blocked p) && same_entries (ran_on p.landings b) (line p)) (and_false b.live) in
    let kept : (same_name b.job job.name && counts p b) ≡ false = ap (λ t. same_name b.job job.name && t) counting
    ∙ and_false (same_name b.job job.name) in
    ap (λ t. map (λ (x : Build). x.outcome) (cond t (b ∷ filter (λ x. same_name x.job job.name && counts p x) bs)
    (filter (λ x. same_name x.job job.name && counts p x) bs))) kept
    ∙ no_outcomes bs p job (All-tail (λ (b : Build). not (b.serial == p.item.serial) ≡ true) b bs h)

none_failed : (bs : List Build) (p : Place) (jobs : List Job) → AllPass (λ b. not (b.serial == p.item.serial)) bs →
    list_any (λ j. j.voting && is_failed_slot (raw_slot_of bs p j)) jobs ≡ false
none_failed bs p [] h = refl
none_failed bs p (j ∷ jobs) h =
    ap (λ os. j.voting && is_failed_slot (slot_of_outcomes os) || list_any
    (λ j. j.voting && is_failed_slot (raw_slot_of bs p j)) jobs) (no_outcomes bs p j h)
    ∙ ap (λ t. t || list_any (λ j. j.voting && is_failed_slot (raw_slot_of bs p j)) jobs) (and_false j.voting)
    ∙ none_failed bs p jobs h

fails_blocked : (bs : List Build) (p : Place) → AllPass (λ b. not (b.serial == p.item.serial)) bs →
    is_failing bs p ≡ is_blocked p
fails_blocked bs p h = ap (λ t. is_blocked p || t) (none_failed bs p p.jobs h) ∙ or_false (is_blocked p)
  where
    or_false : (b : Bool) → (b || false) ≡ b
    or_false true = refl
    or_false false = refl

-- ---- the row

map_push : {X Y : Type 0} (f : X → Y) (xs : List X) (x : X) → map f (xs ++ x ∷ []) ≡ map f xs ++ f x ∷ []
map_push f [] x = refl
map_push f (y ∷ xs) x = ap (λ r. f y ∷ r) (map_push f xs x)

abbrev row_with : Item → Option ℕ → Bool → ItemRow
row_with i ahead failing = record {
  serial = i.serial;
  change = i.change;
  revision = i.revision;
  ahead =
      ahead;
  failing = failing;
}

row_parts : (i : Item) (a b : Option ℕ) (f g : Bool) → a ≡ b → f ≡ g → row_with i a f ≡ row_with i b g
row_parts i a b f g e h = λ k. row_with i (e k) (h k)

-- no build tells of the next serial, and no change stands twice in the queue
pub record CanBeEntered (s : State) (q : Queue) : Type 0 where
  pub no_build : AllPass (λ b. not (b.serial == s.counters.order + 1)) s.builds
  pub differ : IsDistinct (map (λ i. i.change) q.items)
  pub undrawn : (i : Item) → In i q.items → s.counters.order + 1 == i.serial ≡ false

-- its place has the jobs of its plan; they don't matter, since it has no build
entering_is : (c : Settings) (s : State) (q : Queue) (r : Ready) → CanBeEntered s q →
    row_of s.builds (with_ahead (ahead_end s.builds [] (map (place_of c s q) q.items))
    (place_of c (entered c s r) q (next_item s r.change))) ≡ entering_row s (item_rows c s q) r.change
entering_is c s q r h =
    let n = r.change in
    let ps = map (place_of c s q) q.items in
    let all = ahead_end s.builds [] ps in
    let rows = item_rows c s q in
    let x = with_ahead all (place_of c (entered c s r) q (next_item s n)) in
    let ahead : last_of all ≡ ahead_of_next rows = ahead_by_rows s.builds [] ps ∙ end_is rows in
    let met : are_met_by all (needs_of s n) ≡ list_all (is_met_by_rows rows) (needs_of s n) =
    ap (λ (f : Need → Bool). list_all f (needs_of s n))
    (λ k m. m.landed || (ahead_has s.builds m.change [] ps
    ∙ found_once m.change rows (apart_rows c s q [] q.items (apart_items q.items h.differ))) k) in
    let failing : is_failing s.builds x ≡ not (list_all (is_met_by_rows rows) (needs_of s n)) =
    fails_blocked s.builds x h.no_build ∙ ap not met in
    row_parts (next_item s n) (last_of all) (ahead_of_next rows) (is_failing s.builds x)
    (not (list_all (is_met_by_rows rows) (needs_of s n))) ahead failing

-- the places of the items that stand there stay
places_stay : (c : Settings) (s : State) (q : Queue) (r : Ready) →
    ((i : Item) → In i q.items → s.counters.order + 1 == i.serial ≡ false) →
    map (place_of c (entered c s r) q) q.items ≡ map (place_of c s q) q.items
places_stay c s q r h =
    replanned c s (put_by (λ (p : Plan). p.serial) (next_plan c s r.change) s.plans) q q.items
    (λ i m. plan_kept (next_plan c s r.change) s.plans i.serial (h i m))

pub enters_behind : (c : Settings) (s : State) (q : Queue) (r : Ready) → CanBeEntered s q →
    item_rows c (entered c s r) (with_item (next_item s r.change) q) ≡
    item_rows c s q ++ entering_row s (item_rows c s q) r.change ∷ []
enters_behind c s q r h =
    let i = next_item s r.change in
    let t = entered c s r in
    ap (λ (ps : List Place). map (row_of s.builds) (places_after s.builds [] ps)) (map_push (place_of c t q) q.items i
    ∙ ap (λ (ps : List Place). ps ++ place_of c t q i ∷ []) (places_stay c s q r h.undrawn))
    ∙ ap (map (row_of s.builds)) (places_push s.builds [] (map (place_of c s q) q.items) (place_of c t q i))
    ∙ map_push (row_of s.builds) (places c s q)
    (with_ahead (ahead_end s.builds [] (map (place_of c s q) q.items)) (place_of c t q i))
    ∙ ap (λ (row : ItemRow). item_rows c s q ++ row ∷ []) (entering_is c s q r h)

pub others_stay : (c : Settings) (s : State) (q : Queue) (r : Ready) →
    ((i : Item) → In i q.items → s.counters.order + 1 == i.serial ≡ false) →
    item_rows c (entered c s r) q ≡ item_rows c s q
others_stay c s q r h =
    ap (λ (ps : List Place). map (row_of s.builds) (places_after s.builds [] ps)) (places_stay c s q r h)

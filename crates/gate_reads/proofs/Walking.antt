-- Going along a queue, row by row.
use Rattle.std.proofs.Common.{◌≡◌, ℕ, suc, ◌≤◌, Bool, true, false, ◌&&◌, cond, Option, Some, None, List, [], ◌∷◌, map}
use Rattle.std.proofs.Common.{refl, sym, ap, ◌∙◌, subst, inl, inr, arith, lt-ltb, le-ltb}
use Rattle.std.specs.Prelude.{filter, find, length, nat_le, nat_lt, slice_get}
use Rattle.std.specs.List.{list_all}
use Rattle.std.specs.Option.{option_map_or}
use Rattle.std.proofs.lemmas.Bool.{leb-true, and_parts}
use Rattle.std.proofs.lemmas.Option.{same_Some, none-some}
use Rattle.gate_types.specs.declared.records.Item.{Item as ItemRow}
use Rattle.gate_types.specs.Names.{same_name}
use Rattle.gate_types.specs.Settings.{Settings}
use Rattle.gate_types.specs.State.{Item, Queue, State}
use Rattle.gate_types.specs.Line.{Place}
use Rattle.gate_types.specs.Standing.{with_ahead, next_ahead, places_after, place_of, places}
use Rattle.gate_types.specs.Rows.{row_of, item_rows}
use Rattle.gate_types.specs.Once.{Content}
use Rattle.gate_types.specs.Forms.{IsLawfulContent, is_drawn_number, is_revision_number, is_item_in_form}
use Rattle.gate_types.specs.Forms.{is_landing_in_form, is_report_in_form, is_queue_in_form}
use Rattle.gate_types.specs.Rising.{In}
use Rattle.gate_laws.proofs.Members.{all_from, every, found}
use Rattle.gate_laws.proofs.Parts.{ItemsRise}
use Rattle.gate_laws.proofs.Rising.{Rising, rising}
use Rattle.gate_book_trait.specs.Reads.{queue_named, items_in, first_above}
use Rattle.gate_reads.proofs.RisingRows.{RiseAbove, rows_above, all_above}

-- the places of what is left of a queue, with these items ahead
abbrev pub places_from : Settings → State → Queue → List Item → List Item → List Place
places_from c s q ahead rest = places_after s.builds ahead (map (place_of c s q) rest)

-- the place of an item, with these items ahead
abbrev pub place_behind : Settings → State → Queue → List Item → Item → Place
place_behind c s q ahead i = with_ahead ahead (place_of c s q i)

-- serials are at least n, and rise
abbrev pub RiseFrom : ℕ → List Item → Type 0
RiseFrom n [] = Unit {0}
RiseFrom n (i ∷ is) = (n ≤ i.serial) × RiseFrom (suc i.serial) is

-- above this serial is what is left, with these items ahead
pub record IsLeft (c : Settings) (s : State) (q : Queue) (above : ℕ) (ahead rest : List Item) : Type 0 where
  pub later : (n : ℕ) → above ≤ n → rows_above n (item_rows c s q)
      ≡ rows_above n (map (row_of s.builds) (places_from c s q ahead rest))
  pub rise : RiseFrom (suc above) rest
  pub within : (p : Place) → In p (places_from c s q ahead rest) → In p (places c s q)

-- the next row is that of the first item that is left
pub record IsNext (c : Settings) (s : State) (q : Queue) (ahead rest : List Item) (row : ItemRow) : Type 0 where
  pub item : Item
  pub after : List Item
  pub rest_is : rest ≡ item ∷ after
  pub row_is : row ≡ row_of s.builds (place_behind c s q ahead item)
  pub there : In (place_behind c s q ahead item) (places c s q)
  pub left : IsLeft c s q row.serial (next_ahead s.builds (place_behind c s q ahead item)) after

-- the first of them is what a book tells of
first_found : {X : Type 0} (t : X → Bool) (xs : List X) → find t xs ≡ slice_get (filter t xs) 0
first_found t [] = refl
first_found t (x ∷ xs) = by_test (t x) (first_found t xs)
  where
    by_test : (b : Bool) → find t xs ≡ slice_get (filter t xs) 0 →
        cond b (Some x) (find t xs) ≡ slice_get (cond b (x ∷ filter t xs) (filter t xs)) 0
    by_test true h = refl
    by_test false h = h

first_left : {c : Settings} {s : State} {q : Queue} {above : ℕ} {ahead rest : List Item} →
    IsLeft c s q above ahead rest → first_above above (item_rows c s q)
    ≡ first_above above (map (row_of s.builds) (places_from c s q ahead rest))
first_left {c} {s} {q} {above} {ahead} {rest} l =
    first_found (λ i. nat_lt above i.serial) (item_rows c s q)
    ∙ ap (λ is. slice_get is 0) (l.later above (omega arith))
    ∙ sym (first_found (λ i. nat_lt above i.serial) (map (row_of s.builds) (places_from c s q ahead rest)))

above_it : (m n : ℕ) → suc m ≤ n → nat_lt m n ≡ true
above_it m n h = lt-ltb m n (omega (arith, h))

-- behind the first of what is left is the rest of it
pub left_behind : (c : Settings) (s : State) (q : Queue) (above : ℕ) (ahead after : List Item) (i : Item) →
    IsLeft c s q above ahead (i ∷ after) →
    IsLeft c s q i.serial (next_ahead s.builds (place_behind c s q ahead i)) after
left_behind c s q above ahead after i l =
    let p = place_behind c s q ahead i in
    let from : suc above ≤ i.serial = l.rise.0 in
    let behind = map (row_of s.builds) (places_from c s q (next_ahead s.builds p) after) in
    record {
      later = λ n h. l.later n (omega (arith, from, h))
          ∙ ap (λ t. cond t (row_of s.builds p ∷ rows_above n behind) (rows_above n behind)) (le-ltb n i.serial h);
      rise = l.rise.1;
      within = λ r m. l.within r (inr m);
    }

pub step_along : (c : Settings) (s : State) (q : Queue) (above : ℕ) (ahead rest : List Item) (row : ItemRow) →
    IsLeft c s q above ahead rest → first_above above (item_rows c s q) ≡ Some row → IsNext c s q ahead rest row
step_along c s q above ahead [] row l e = absurd (none-some row (sym (first_left l) ∙ e))
step_along c s q above ahead (i ∷ after) row l e =
    let p = place_behind c s q ahead i in
    let behind = map (row_of s.builds) (places_from c s q (next_ahead s.builds p) after) in
    let row_is : row ≡ row_of s.builds p = sym (same_Some (row_of s.builds p) row
    (sym (ap (λ t. cond t (Some (row_of s.builds p)) (first_above above behind)) (above_it above i.serial l.rise.0))
    ∙ sym (first_left l) ∙ e)) in
    record {
      item = i;
      after = after;
      rest_is = refl;
      row_is = row_is;
      there = l.within p (inl refl);
      left = subst (λ n. IsLeft c s q n (next_ahead s.builds p) after)
          (sym (ap (λ (r : ItemRow). r.serial) row_is)) (left_behind c s q above ahead after i l);
    }

-- where no row is above, nothing is left
pub end_along : (c : Settings) (s : State) (q : Queue) (above : ℕ) (ahead rest : List Item) →
    IsLeft c s q above ahead rest → first_above above (item_rows c s q) ≡ None → rest ≡ []
end_along c s q above ahead [] l e = refl
end_along c s q above ahead (i ∷ after) l e =
    let row = row_of s.builds (place_behind c s q ahead i) in
    let behind = map (row_of s.builds) (places_from c s q (next_ahead s.builds (place_behind c s q ahead i)) after) in
    absurd (none-some row (sym e ∙ first_left l
    ∙ ap (λ t. cond t (Some row) (first_above above behind)) (above_it above i.serial l.rise.0)))

-- ---- the rows that are left

pub rows_rise : (c : Settings) (s : State) (q : Queue) (n : ℕ) (ahead rest : List Item) → RiseFrom (suc n) rest →
    RiseAbove n (map (row_of s.builds) (places_from c s q ahead rest))
rows_rise c s q n ahead [] r = tt
rows_rise c s q n ahead (i ∷ is) r =
    let from : suc n ≤ i.serial = r.0 in
    (omega (arith, from), rows_rise c s q i.serial (next_ahead s.builds (place_behind c s q ahead i)) is r.1)

pub rows_left : {c : Settings} {s : State} {q : Queue} {n : ℕ} {ahead rest : List Item} → IsLeft c s q n ahead rest →
    rows_above n (item_rows c s q) ≡ map (row_of s.builds) (places_from c s q ahead rest)
rows_left {c} {s} {q} {n} {ahead} {rest} l =
    l.later n (omega arith) ∙ all_above n n (map (row_of s.builds) (places_from c s q ahead rest)) (omega arith)
    (rows_rise c s q n ahead rest l.rise)

-- ---- at the front all is left

from_rising : (n : ℕ) (is : List Item) → Rising (λ i. i.serial) is → ((i : Item) → In i is → n ≤ i.serial) →
    RiseFrom n is
from_rising n [] r h = tt
from_rising n (i ∷ is) r h =
    (h i (inl refl), from_rising (suc i.serial) is r.1 (λ j m. let less = r.0 j m in omega (arith, less)))

pub at_front : (c : Settings) (s : State) (q : Queue) → Rising (λ i. i.serial) q.items →
    ((i : Item) → In i q.items → 1 ≤ i.serial) → IsLeft c s q 0 [] q.items
at_front c s q r h = record { later = λ n l. refl; rise = from_rising 1 q.items r h; within = λ p m. m }

pub rows_are : (c : Settings) (s : State) (name : List ℕ) (q : Queue) → queue_named s name ≡ Some q →
    items_in c s name ≡ item_rows c s q
rows_are c s name q e = ap (λ (o : Option Queue). option_map_or (item_rows c s) o []) e

item_serials : (q : Queue) → is_queue_in_form q ≡ true → (i : Item) → In i q.items → 1 ≤ i.serial
item_serials q h i m =
    let form = all_from is_item_in_form q.items (items_of q h) i m in
    leb-true 1 i.serial (first (nat_le 1 i.serial) _
    (first (is_drawn_number i.serial) _ (first _ (is_revision_number i.revision) form)))
  where
    first : (a b : Bool) → a && b ≡ true → a ≡ true
    first a b e = (and_parts a b e).0

    items_of : (q : Queue) → is_queue_in_form q ≡ true → list_all is_item_in_form q.items ≡ true
    items_of q h = (and_parts _ (list_all is_item_in_form q.items) (first _ (list_all is_landing_in_form q.landings)
        (first _ (list_all (is_report_in_form (length q.landings)) q.reports) h))).1

-- of a lawful content too
pub lawful_front : (c : Settings) (x : Content) → IsLawfulContent c x → (name : List ℕ) (q : Queue) →
    queue_named x.state name ≡ Some q → IsLeft c x.state q 0 [] q.items
lawful_front c x h name q e =
    let m = (found (λ r. same_name r.name name) x.state.queues q e).0 in
    at_front c x.state q
    (rising (λ i. i.serial) q.items (every ItemsRise x.state.queues h.lawful.sound.items_rise q m))
    (item_serials q (every (λ r. is_queue_in_form r ≡ true) x.state.queues h.in_form.state.queues q m))

-- the rows that a book tells of rise
pub lawful_rise : (c : Settings) (x : Content) → IsLawfulContent c x → (name : List ℕ) →
    RiseAbove 0 (items_in c x.state name)
lawful_rise c x h name = by_queue (queue_named x.state name) refl
  where
    by_queue : (o : Option Queue) → queue_named x.state name ≡ o →
        RiseAbove 0 (option_map_or (item_rows c x.state) o [])
    by_queue None e = tt
    by_queue (Some q) e = rows_rise c x.state q 0 [] q.items (lawful_front c x h name q e).rise

-- The items of a queue, part by part, before the first for which a build is due.
use Rattle.std.proofs.Common.{◌≡◌, ℕ, zero, suc, ◌-◌, ◌<◌, ◌≤◌, Bool, true, false, ◌||◌, cond, Some, None, List, []}
use Rattle.std.proofs.Common.{◌∷◌, ◌++◌, map, take, drop, length, refl, sym, ap, ◌∙◌, subst, arith, inl, inr}
use Rattle.std.specs.Prelude.{◌==◌, nat_lt, nat_le, min, if◌then◌else◌, slice_get, option_map, Contains}
use Rattle.std.specs.List.{flat_map}
use Rattle.std.proofs.lemmas.Bool.{le-leb, leb-true, lt-ltb, ltb-true}
use Rattle.std.proofs.lemmas.Grind.{flat_map-append}
use Rattle.std.proofs.lemmas.List.{take-append-drop, take-map, take-take, take_all, length-take, length-map}
use Rattle.std.proofs.lemmas.List.Concat.{flat_map-cons}
use Rattle.std.proofs.lemmas.Option.{none-some}
use Rattle.gate_types.specs.declared.records.Build.{Build}
use Rattle.gate_types.specs.declared.records.Entry.{Entry}
use Rattle.gate_types.specs.declared.records.Item.{Item as ItemRow}
use Rattle.gate_types.specs.Settings.{Settings}
use Rattle.gate_types.specs.State.{Item, Queue, State}
use Rattle.gate_types.specs.Line.{Place}
use Rattle.gate_types.specs.Standing.{next_ahead, places, places_after, place_of}
use Rattle.gate_types.specs.Choice.{builds_for, choices}
use Rattle.gate_types.specs.Rows.{row_of}
use Rattle.gate_types.specs.Rising.{In}
use Rattle.gate_laws.proofs.Members.{all, in_contains}
use Rattle.gate_book_trait.specs.Reads.{queue_named, items_in, first_items_above}
use Rattle.gate_reads.specs.NextBuild.{under_number}
use Rattle.gate_reads.specs.Parts.{last_serial, ahead_behind, most_at_once, AreBehind}
use Rattle.gate_reads.proofs.Walking.{IsLeft, place_behind, places_from, left_behind, rows_are, rows_left}
use Rattle.gate_reads.proofs.RisingRows.{rows_above}
use Rattle.gate_reads.proofs.Trying.{Tried, is_open, open_places, open_first, with_row, longer_is, first_some}
use Rattle.gate_reads.proofs.Trying.{first_none}

-- ---- how many are asked for

-- a part is within the window
abbrev pub fits : ℕ → ℕ → ℕ → Bool
fits window left most = window == 0 || nat_le most left

-- how many are asked for, where so many are left
abbrev pub size : ℕ → ℕ → ℕ
size window left = if window == 0 then most_at_once else min left most_at_once

size_fits : (window left : ℕ) → fits window left (size window left) ≡ true
size_fits window left = by_window (window == 0)
  where
    by_window : (b : Bool) → b || nat_le (cond b most_at_once (min left most_at_once)) left ≡ true
    by_window true = refl
    by_window false = le-leb (min left most_at_once) left (omega arith)

size_above : (window left : ℕ) → is_open window left ≡ true → nat_lt 0 (size window left) ≡ true
size_above window left e = by_window (window == 0) e
  where
    by_window : (b : Bool) → b || nat_lt 0 left ≡ true → nat_lt 0 (cond b most_at_once (min left most_at_once)) ≡ true
    by_window true k = refl
    by_window false k =
        let less : 0 < left = ltb-true 0 left k in
        lt-ltb 0 (min left most_at_once) (omega (arith, less))

pub asked_fits : (window of left most : ℕ) → window ≡ of → most ≡ size window left → fits of left most ≡ true
asked_fits window of left most e m = (λ k. fits (sym e k) left (m k)) ∙ size_fits window left

pub asked_above : (window left most : ℕ) → is_open window left ≡ true → most ≡ size window left → 0 < most
asked_above window left most o m = ltb-true 0 most (ap (nat_lt 0) m ∙ size_above window left o)

-- the places of a part are the first within the window
open_part : (window left most : ℕ) (ps : List Place) → fits window left most ≡ true →
    (others : List Place) × (open_places window left ps ≡ take most ps ++ others)
open_part window left most ps e = by_window (window == 0) e
  where
    by_window : (b : Bool) → b || nat_le most left ≡ true →
        (others : List Place) × (cond b ps (take left ps) ≡ take most ps ++ others)
    by_window true k = (drop most ps, sym (take-append-drop most ps))
    by_window false k = (
      drop most (take left ps),
      sym (take-append-drop most (take left ps))
          ∙ ap (λ l. l ++ drop most (take left ps)) (take-take most left ps (leb-true most left k)),
    )

-- and all of them, where it is short
open_short : (window left most : ℕ) (ps : List Place) → fits window left most ≡ true →
    length (take most ps) < most → open_places window left ps ≡ take most ps
open_short window left most ps e l = by_window (window == 0) e
  where
    few : length ps < most
    few = let same = length-take most ps in omega (arith, same, l)

    by_window : (b : Bool) → b || nat_le most left ≡ true → cond b ps (take left ps) ≡ take most ps
    by_window true k = sym (take_all most ps (omega (arith, few)))
    by_window false k =
        let within = leb-true most left k in
        take_all left ps (omega (arith, few, within)) ∙ sym (take_all most ps (omega (arith, few)))

-- ---- a part of what is left

take_places : (bs : List Build) (ahead : List Item) (m : ℕ) (ps : List Place) →
    take m (places_after bs ahead ps) ≡ places_after bs ahead (take m ps)
take_places bs ahead zero ps = refl
take_places bs ahead (suc m) [] = refl
take_places bs ahead (suc m) (p ∷ ps) =
    let here = record p { ahead = ahead } in
    ap (λ rs. here ∷ rs) (take_places bs (next_ahead bs here) m ps)

from_take : {X : Type 0} (m : ℕ) (xs : List X) (x : X) → In x (take m xs) → In x xs
from_take zero xs x m = absurd m
from_take (suc k) [] x m = absurd m
from_take (suc k) (y ∷ ys) x m = elim m [ inl e ↦ inl e | inr n ↦ inr (from_take k ys x n) ]

-- the places of a part
abbrev pub part_places : {c : Settings} {s : State} {q : Queue} {above left : ℕ} {ahead : List Entry} →
    ℕ → Tried c s q above left ahead → List Place
part_places {c} {s} {q} m h = take m (places_from c s q h.items h.rest)

pub part_rows : {c : Settings} {s : State} {q : Queue} {above left : ℕ} {ahead : List Entry} →
    (h : Tried c s q above left ahead) → (name : List ℕ) → queue_named s name ≡ Some q → (most : ℕ)
    (rows : List ItemRow) → rows ≡ first_items_above above most (items_in c s name) →
    rows ≡ map (row_of s.builds) (part_places most h)
part_rows {c} {s} {q} {above} h name e most rows r =
    r ∙ ap (λ is. take most (rows_above above is)) (rows_are c s name q e) ∙ ap (take most) (rows_left h.behind)
    ∙ take-map (row_of s.builds) most (places_from c s q h.items h.rest)

pub part_behind : {c : Settings} {s : State} {q : Queue} {above left : ℕ} {ahead : List Entry} →
    (h : Tried c s q above left ahead) → (name : List ℕ) → queue_named s name ≡ Some q → (most : ℕ)
    (rows : List ItemRow) → rows ≡ first_items_above above most (items_in c s name) →
    AreBehind c s name ahead rows q (part_places most h)
part_behind {c} {s} {q} h name e most rows r = record {
  before = h.items;
  items = take most h.rest;
  queue_is = e;
  there = all (Contains (places c s q)) (part_places most h)
      (λ p m. in_contains (places c s q) p
      (h.behind.within p (from_take most (places_from c s q h.items h.rest) p m)));
  places_are = take_places s.builds h.items most (map (place_of c s q) h.rest)
      ∙ ap (places_after s.builds h.items) (take-map (place_of c s q) most h.rest);
  rows_are = part_rows h name e most rows r;
  ahead_is = h.ahead_is;
}

-- ---- what comes of a part

pub part_here : {c : Settings} {s : State} {q : Queue} {above left : ℕ} {ahead : List Entry} →
    (h : Tried c s q above left ahead) → (most : ℕ) → fits q.window left most ≡ true → (number : ℕ) (b : Build) →
    Some b ≡ option_map (under_number number) (slice_get (flat_map (builds_for s q) (part_places most h)) 0) →
    Some b ≡ option_map (under_number number) (slice_get (choices c s q) 0)
part_here {c} {s} {q} {left = left} h most o number b f =
    let ps = places_from c s q h.items h.rest in
    let parts = open_part q.window left most ps o in
    first_some (under_number number) b (flat_map (builds_for s q) (take most ps)) (flat_map (builds_for s q) parts.0) f
    ∙ ap (option_map (under_number number)) (sym (h.due ∙ ap (λ (bs : List Build). slice_get bs 0)
    (ap (flat_map (builds_for s q)) parts.1 ∙ flat_map-append (builds_for s q) (take most ps) parts.0)))

pub part_short : {c : Settings} {s : State} {q : Queue} {above left : ℕ} {ahead : List Entry} →
    (h : Tried c s q above left ahead) → (name : List ℕ) → queue_named s name ≡ Some q → (most : ℕ)
    (rows : List ItemRow) → rows ≡ first_items_above above most (items_in c s name) → length rows < most →
    fits q.window left most ≡ true → slice_get (flat_map (builds_for s q) (part_places most h)) 0 ≡ None →
    slice_get (choices c s q) 0 ≡ None
part_short {c} {s} {q} {left = left} h name e most rows r l o f =
    let ps = places_from c s q h.items h.rest in
    let few = ap (λ (is : List ItemRow). length is) (part_rows h name e most rows r)
    ∙ length-map (take most ps) (row_of s.builds) in
    h.due ∙ ap (λ (rs : List Place). slice_get (flat_map (builds_for s q) rs) 0)
    (open_short q.window left most ps o (subst (λ n. n < most) few l)) ∙ f

-- where there is none
pub part_missing : {c : Settings} {s : State} {q : Queue} {above left : ℕ} {ahead : List Entry} →
    (h : Tried c s q above left ahead) → (name : List ℕ) → queue_named s name ≡ Some q → (most : ℕ) →
    first_items_above above most (items_in c s name) ≡ [] → 0 < most → fits q.window left most ≡ true →
    slice_get (choices c s q) 0 ≡ None
part_missing {c} {s} {q} h name e most r l o =
    part_short h name e most [] (sym r) l o (by_places (part_places most h) (sym (part_rows h name e most [] (sym r))))
  where
    by_places : (ps : List Place) → map (row_of s.builds) ps ≡ [] → slice_get (flat_map (builds_for s q) ps) 0 ≡ None
    by_places [] k = refl
    by_places (p ∷ ps) k =
        let none : suc (length (map (row_of s.builds) ps)) ≡ 0 = ap (λ (rs : List ItemRow). length rs) k in
        absurd (omega (arith, none))

-- ---- behind a part

-- a part of m places leads on
abbrev LeadsOn : Settings → State → Queue → ℕ → Type 0
LeadsOn c s q m = (above left : ℕ) (ahead : List Entry) (h : Tried c s q above left ahead) (rows : List ItemRow) →
    fits q.window left m ≡ true → slice_get (flat_map (builds_for s q) (part_places m h)) 0 ≡ None →
    rows ≡ map (row_of s.builds) (part_places m h) →
    Tried c s q (last_serial above rows) (left - length rows) (ahead_behind ahead rows)

no_rows : (c : Settings) (s : State) (q : Queue) (above left : ℕ) (ahead : List Entry) (rows : List ItemRow) →
    Tried c s q above left ahead → rows ≡ [] →
    Tried c s q (last_serial above rows) (left - length rows) (ahead_behind ahead rows)
no_rows c s q above left ahead rows h e =
    let same : left ≡ left - 0 = omega arith in
    subst (λ rs. Tried c s q (last_serial above rs) (left - length rs) (ahead_behind ahead rs)) (sym e)
    (subst (λ n. Tried c s q above n ahead) same h)

none_first : (s : State) (q : Queue) (p : Place) (ps : List Place) →
    slice_get (flat_map (builds_for s q) (p ∷ ps)) 0 ≡ None →
    (slice_get (builds_for s q p) 0 ≡ None) × (slice_get (flat_map (builds_for s q) ps) 0 ≡ None)
none_first s q p ps e =
    by_builds (builds_for s q p) (sym (ap (λ (bs : List Build). slice_get bs 0) (flat_map-cons (builds_for s q) p ps)) ∙ e)
  where
    by_builds : (bs : List Build) → slice_get (bs ++ flat_map (builds_for s q) ps) 0 ≡ None →
        (slice_get bs 0 ≡ None) × (slice_get (flat_map (builds_for s q) ps) 0 ≡ None)
    by_builds [] k = (refl, k)
    by_builds (b ∷ bs) k = absurd (none-some b (sym k))

fits_one : (window left m : ℕ) → fits window left (suc m) ≡ true → is_open window left ≡ true
fits_one window left m e = by_window (window == 0) e
  where
    by_window : (b : Bool) → b || nat_le (suc m) left ≡ true → b || nat_lt 0 left ≡ true
    by_window true k = refl
    by_window false k = let less = leb-true (suc m) left k in lt-ltb 0 left (omega (arith, less))

fits_less : (window left m : ℕ) → fits window left (suc m) ≡ true → fits window (left - 1) m ≡ true
fits_less window left m e = by_window (window == 0) e
  where
    by_window : (b : Bool) → b || nat_le (suc m) left ≡ true → b || nat_le m (left - 1) ≡ true
    by_window true k = refl
    by_window false k = let less = leb-true (suc m) left k in le-leb m (left - 1) (omega (arith, less))

one_more : (c : Settings) (s : State) (q : Queue) (m : ℕ) → LeadsOn c s q m → LeadsOn c s q (suc m)
one_more c s q m go above left ahead h rows o f r = by_rest h.rest refl
  where
    goal : List ItemRow → Type 0
    goal rs = Tried c s q (last_serial above rs) (left - length rs) (ahead_behind ahead rs)

    by_rest : (is : List Item) → h.rest ≡ is → goal rows
    by_rest [] e = no_rows c s q above left ahead rows h
        (r ∙ ap (λ is. map (row_of s.builds) (take (suc m) (places_from c s q h.items is))) e)
    by_rest (i ∷ after) e =
        let p = place_behind c s q h.items i in
        let row = row_of s.builds p in
        let behind = places_from c s q (next_ahead s.builds p) after in
        let none = none_first s q p (take m behind)
        (sym (ap (λ is. slice_get (flat_map (builds_for s q) (take (suc m) (places_from c s q h.items is))) 0) e) ∙ f) in
        let tried : Tried c s q i.serial (left - 1) (with_row row ahead) = record {
          items = next_ahead s.builds p;
          rest = after;
          ahead_is = ap (with_row row) h.ahead_is ∙ sym (longer_is s.builds p);
          behind = left_behind c s q above h.items after i (subst (IsLeft c s q above h.items) e h.behind);
          due = h.due ∙ ap (λ is. slice_get (flat_map (builds_for s q)
              (open_places q.window left (places_from c s q h.items is))) 0) e
              ∙ ap (λ (bs : List Build). slice_get bs 0)
              (open_first s q q.window left p behind (fits_one q.window left m o))
              ∙ first_none (under_number 0) (builds_for s q p) (flat_map (builds_for s q)
              (open_places q.window (left - 1) behind)) (sym (ap (option_map (under_number 0)) none.0));
        } in
        let others = map (row_of s.builds) (take m behind) in
        let less : left - 1 - length others ≡ left - suc (length others) = omega arith in
        subst goal
        (sym (r ∙ ap (λ is. map (row_of s.builds) (take (suc m) (places_from c s q h.items is))) e))
        (subst (λ k. Tried c s q (last_serial i.serial others) k (ahead_behind (with_row row ahead) others)) less
        (go i.serial (left - 1) (with_row row ahead) tried others (fits_less q.window left m o) none.1 refl))

nothing : (c : Settings) (s : State) (q : Queue) → LeadsOn c s q 0
nothing c s q above left ahead h rows o f r = no_rows c s q above left ahead rows h r

leads_on : (c : Settings) (s : State) (q : Queue) (m : ℕ) → LeadsOn c s q m
leads_on c s q zero = nothing c s q
leads_on c s q (suc m) = one_more c s q m (leads_on c s q m)

pub part_next : {c : Settings} {s : State} {q : Queue} {above left : ℕ} {ahead : List Entry} →
    (h : Tried c s q above left ahead) → (name : List ℕ) → queue_named s name ≡ Some q → (most : ℕ)
    (rows : List ItemRow) → rows ≡ first_items_above above most (items_in c s name) → most ≤ length rows →
    fits q.window left most ≡ true → slice_get (flat_map (builds_for s q) (part_places most h)) 0 ≡ None →
    (serial less : ℕ) (longer : List Entry) → serial ≡ last_serial above rows → less ≡ left - most →
    longer ≡ ahead_behind ahead rows → Tried c s q serial less longer
part_next {c} {s} {q} {above} {left} {ahead} h name e most rows r l o f serial less longer es el ea =
    let ps = places_from c s q h.items h.rest in
    let few = ap (λ (is : List ItemRow). length is) (part_rows h name e most rows r)
    ∙ length-map (take most ps) (row_of s.builds) ∙ length-take most ps in
    let all_of : left - length rows ≡ less = omega (arith, few, l, el) in
    subst (λ n. Tried c s q n less longer) (sym es)
    (subst (λ a. Tried c s q (last_serial above rows) less a) (sym ea)
    (subst (λ k. Tried c s q (last_serial above rows) k (ahead_behind ahead rows)) all_of
    (leads_on c s q most above left ahead h rows o f (part_rows h name e most rows r))))

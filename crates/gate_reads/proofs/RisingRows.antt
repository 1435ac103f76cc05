-- Rows that rise by serial: the first of those above a serial, and what is between.
use Rattle.std.proofs.Common.{◌≡◌, ℕ, zero, suc, ◌<◌, ◌≤◌, ◌-◌, Bool, true, false, ◌&&◌, cond, Some, None, List, []}
use Rattle.std.proofs.Common.{◌∷◌, map, take, refl, sym, ap, ◌∙◌, subst, inl, inr, arith, lt-ltb, true≢false}
use Rattle.std.specs.Prelude.{filter, if◌then◌else◌, length, nat_le, nat_lt, slice_get}
use Rattle.std.specs.List.Sorted.{IsStrictlyIncreasing}
use Rattle.std.proofs.lemmas.Bool.{le-leb, ltb-true}
use Rattle.std.proofs.lemmas.Option.{none-some, same_Some}
use Rattle.gate_types.specs.declared.records.Item.{Item as ItemRow}
use Rattle.gate_types.specs.Rising.{In}
use Rattle.gate_laws.proofs.Rising.{Rising, increasing}
use Rattle.gate_book_trait.specs.Reads.{first_items_above, items_between}
use Rattle.gate_reads.specs.Parts.{last_serial}

-- all are above this serial, and rise
abbrev pub RiseAbove : ℕ → List ItemRow → Type 0
RiseAbove n [] = Unit {0}
RiseAbove n (i ∷ is) = (n < i.serial) × RiseAbove i.serial is

abbrev pub rows_above : ℕ → List ItemRow → List ItemRow
rows_above n is = filter (λ i. nat_lt n i.serial) is

abbrev up_to : ℕ → List ItemRow → List ItemRow
up_to n is = filter (λ i. nat_le i.serial n) is

each_above : (n : ℕ) (is : List ItemRow) → RiseAbove n is → (i : ItemRow) → In i is → n < i.serial
each_above n [] r i m = absurd m
each_above n (j ∷ js) r i m = elim m [
  | inl e ↦ subst (λ (k : ItemRow). n < k.serial) e r.0
  | inr k ↦ (let less : j.serial < i.serial = each_above j.serial js r.1 i k in
      let first : n < j.serial = r.0 in
      omega (arith, first, less))
]

rise_by : (n : ℕ) (is : List ItemRow) → RiseAbove n is → Rising (λ i. i.serial) is
rise_by n [] r = tt
rise_by n (i ∷ is) r = (each_above i.serial is r.1, rise_by i.serial is r.1)

pub rise_strictly : (n : ℕ) (is : List ItemRow) → RiseAbove n is → IsStrictlyIncreasing (map (λ i. i.serial) is)
rise_strictly n is r = increasing (λ (i : ItemRow). i.serial) is (rise_by n is r)

pub rise_take : (n m : ℕ) (is : List ItemRow) → RiseAbove n is → RiseAbove n (take m is)
rise_take n zero is r = tt
rise_take n (suc m) [] r = tt
rise_take n (suc m) (i ∷ is) r = (r.0, rise_take i.serial m is r.1)

-- where all are above, nothing is left out
pub all_above : (b n : ℕ) (is : List ItemRow) → b ≤ n → RiseAbove n is → rows_above b is ≡ is
all_above b n [] h r = refl
all_above b n (i ∷ is) h r =
    let first : n < i.serial = r.0 in
    ap (λ t. cond t (i ∷ rows_above b is) (rows_above b is)) (lt-ltb b i.serial (omega (arith, h, first)))
    ∙ ap (λ l. i ∷ l) (all_above b i.serial is (omega (arith, h, first)) r.1)

none_up_to : (b n : ℕ) (is : List ItemRow) → b ≤ n → RiseAbove n is → up_to b is ≡ []
none_up_to b n [] h r = refl
none_up_to b n (i ∷ is) h r =
    let first : n < i.serial = r.0 in
    ap (λ t. cond t (i ∷ up_to b is) (up_to b is)) (not_le i.serial b (omega (arith, h, first)))
    ∙ none_up_to b i.serial is (omega (arith, h, first)) r.1
  where
    not_le : (x y : ℕ) → y < x → nat_le x y ≡ false
    not_le x y l = grind (arith, l)

pub rise_above : (b n : ℕ) (is : List ItemRow) → RiseAbove n is → RiseAbove b (rows_above b is)
rise_above b n [] r = tt
rise_above b n (i ∷ is) r = by_test (nat_lt b i.serial) refl (rise_above b i.serial is r.1)
  where
    by_test : (t : Bool) → nat_lt b i.serial ≡ t → RiseAbove b (rows_above b is) →
        RiseAbove b (cond t (i ∷ rows_above b is) (rows_above b is))
    by_test true e h =
        let less : b < i.serial = ltb-true b i.serial e in
        (less, subst (RiseAbove i.serial) (sym (all_above b i.serial is (omega (arith, less)) r.1)) r.1)
    by_test false e h = h

last_from : (n : ℕ) (is : List ItemRow) → RiseAbove n is → n ≤ last_serial n is
last_from n [] r = omega arith
last_from n (i ∷ is) r =
    let first : n < i.serial = r.0 in
    let rest : i.serial ≤ last_serial i.serial is = last_from i.serial is r.1 in
    omega (arith, first, rest)

-- up to the last of the first are just these
up_to_last : (n m : ℕ) (is : List ItemRow) → RiseAbove n is → up_to (last_serial n (take m is)) is ≡ take m is
up_to_last n zero is r = none_up_to n n is (omega arith) r
up_to_last n (suc m) [] r = refl
up_to_last n (suc m) (i ∷ is) r =
    let last = last_serial i.serial (take m is) in
    ap (λ t. cond t (i ∷ up_to last is) (up_to last is))
    (le-leb i.serial last (last_from i.serial (take m is) (rise_take i.serial m is r.1)))
    ∙ ap (λ l. i ∷ l) (up_to_last i.serial m is r.1)

both_tests : {X : Type 0} (t u : X → Bool) (xs : List X) → filter (λ x. t x && u x) xs ≡ filter u (filter t xs)
both_tests t u [] = refl
both_tests {X = X} t u (x ∷ xs) = by_test (t x) (both_tests t u xs)
  where
    by_test : (b : Bool) → filter (λ y. t y && u y) xs ≡ filter u (filter t xs) →
        cond (b && u x) (x ∷ filter (λ y. t y && u y) xs) (filter (λ y. t y && u y) xs)
        ≡ filter u (cond b (x ∷ filter t xs) (filter t xs))
    by_test true r = ap (λ l. cond (u x) (x ∷ l) l) r
    by_test false r = r

-- the first above a serial are those between it and the last of them
pub between : (n low most : ℕ) (rows items : List ItemRow) → RiseAbove n rows →
    items ≡ first_items_above low most rows → items_between low (last_serial low items) rows ≡ items
between n low most rows items r e =
    both_tests (λ i. nat_lt low i.serial) (λ i. nat_le i.serial (last_serial low items)) rows
    ∙ ap (λ is. up_to (last_serial low is) (rows_above low rows)) e
    ∙ up_to_last low most (rows_above low rows) (rise_above low n rows r) ∙ sym e

-- ---- the last

pub last_is : (n : ℕ) (is : List ItemRow) (i : ItemRow) → slice_get is (length is - 1) ≡ Some i →
    last_serial n is ≡ i.serial
last_is n [] i e = absurd (none-some i e)
last_is n (j ∷ []) i e = ap (λ (x : ItemRow). x.serial) (same_Some j i e)
last_is n (j ∷ k ∷ is) i e =
    let step : length (j ∷ k ∷ is) - 1 ≡ suc (length (k ∷ is) - 1) = omega arith in
    last_is j.serial (k ∷ is) i (sym (ap (slice_get (j ∷ k ∷ is)) step) ∙ e)

-- which is above, where there is one
pub none_above : (low most n : ℕ) (rows items : List ItemRow) → RiseAbove n rows →
    items ≡ first_items_above low most rows → nat_lt low (last_serial low items) ≡ false → items ≡ []
none_above low most n rows items r e f = by_items items (subst (RiseAbove low) (sym e)
    (rise_take low most (rows_above low rows) (rise_above low n rows r))) f
  where
    by_items : (is : List ItemRow) → RiseAbove low is → nat_lt low (last_serial low is) ≡ false → is ≡ []
    by_items [] h k = refl
    by_items (i ∷ is) h k =
        let first : low < i.serial = h.0 in
        let rest : i.serial ≤ last_serial i.serial is = last_from i.serial is h.1 in
        absurd (true≢false (sym (lt-ltb low (last_serial i.serial is) (omega (arith, first, rest))) ∙ k))

-- ---- what a choice tells of its test

pub not_then : {X : Type 0} (b : Bool) (x : X) → (if b then Some x else None) ≡ None → b ≡ false
not_then true x e = absurd (none-some x (sym e))
not_then false x e = refl

pub then_is : {X : Type 0} (b : Bool) (x y : X) → (if b then Some x else None) ≡ Some y → y ≡ x
then_is true x y e = sym (same_Some x y e)
then_is false x y e = absurd (none-some y e)

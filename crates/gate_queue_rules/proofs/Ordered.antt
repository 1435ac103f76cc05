-- Rows, builds and places in order, and rows that go with places.
use Rattle.std.proofs.Common.{◌≡◌, ℕ, ◌-◌, get_or, ⊎_elim, suc, ◌+◌, ◌<◌, ◌≤◌, Bool, List, [], ◌∷◌, map, length}
use Rattle.std.proofs.Common.{arith, sym, ap, ◌∙◌, subst}
use Rattle.std.specs.Prelude.{All, AllPairs}
use Rattle.std.proofs.lemmas.List.Kept.{AllPairs-from_increasing}
use Rattle.std.specs.List.Sorted.{IsStrictlyIncreasing}
use Rattle.std.proofs.lemmas.List.{get_or-map}
use Rattle.std.proofs.lemmas.Bool.{cases_lt}
use Rattle.gate_types.specs.declared.records.Item.{Item as ItemRow}
use Rattle.gate_types.specs.declared.records.Build.{Build}
use Rattle.gate_types.specs.Settings.{Settings}
use Rattle.gate_types.specs.State.{Item, Queue, State}
use Rattle.gate_types.specs.Line.{Place}
use Rattle.gate_types.specs.Standing.{place_of, places_after, with_ahead, next_ahead}
use Rattle.gate_types.specs.Sweep.{Judged}
use Rattle.gate_types.specs.Rising.{RisesFrom}
use Rattle.std.specs.List.{AllByRecursion as Each}
use Rattle.gate_laws.proofs.Stays.{Tells as TellsOf}
use Rattle.gate_laws.proofs.LiveBuildsCount.{place_serial}

-- they are below n
abbrev pub AllBelow : {X : Type 0} → (X → ℕ) → ℕ → List X → Type 0
AllBelow key n [] = Unit {0}
AllBelow key n (x ∷ xs) = (key x < n) × AllBelow key n xs

abbrev pub row_serial : ItemRow → ℕ
row_serial i = i.serial

abbrev pub build_number : Build → ℕ
build_number b = b.number

-- each row goes with its place
abbrev pub GoWith : List ItemRow → List Place → Type 0
GoWith [] [] = Unit {0}
GoWith [] (p ∷ ps) = ⊥
GoWith (i ∷ is) [] = ⊥
GoWith (i ∷ is) (p ∷ ps) = (i.serial ≡ p.item.serial) × GoWith is ps

-- a test tells which of these go
abbrev pub Tells : (ℕ → Bool) → List Judged → Type 0
Tells leaves = Each (TellsOf leaves)

-- a list of numbers that rises, by its recursion
numbers_rise : (n : ℕ) (ns : List ℕ) → AllPairs (λ x y. x < y) ns → All (λ x. n ≤ x) ns → RisesFrom (λ x. x) n ns
numbers_rise n [] h l = tt
numbers_rise n (x ∷ xs) h l = (
  l 0 0 (omega arith),
  numbers_rise (suc x) xs
      (λ i j d a b. h (suc i) (suc j) d (omega (arith, a)) (omega (arith, b)))
      (λ k d b. h 0 (suc k) d (omega arith) (omega (arith, b))),
)

by_key : {X : Type 0} (key : X → ℕ) (n : ℕ) (xs : List X) → RisesFrom (λ x. x) n (map key xs) → RisesFrom key n xs
by_key key n [] h = tt
by_key key n (x ∷ xs) h = (h.0, by_key key (suc (key x)) xs h.1)

pub rises : {X : Type 0} (key : X → ℕ) (xs : List X) → IsStrictlyIncreasing (map key xs) → RisesFrom key 0 xs
rises key xs h = by_key key 0 xs (numbers_rise 0 (map key xs) (AllPairs-from_increasing (map key xs) h) (λ k d b. omega arith))

-- the places rise with the rows
pub places_rise : (n : ℕ) (is : List ItemRow) (ps : List Place) → GoWith is ps → RisesFrom row_serial n is → RisesFrom place_serial n ps
places_rise n [] [] g r = tt
places_rise n [] (p ∷ ps) g r = absurd g
places_rise n (i ∷ is) [] g r = absurd g
places_rise n (i ∷ is) (p ∷ ps) g r =
    let same : i.serial ≡ p.item.serial = g.0 in
    let from : n ≤ i.serial = r.0 in
    (omega arith, places_rise (suc p.item.serial) is ps g.1 (ap_rise (suc i.serial) (suc p.item.serial) is (omega arith) r.1))
  where
    ap_rise : (m n : ℕ) (js : List ItemRow) → m ≡ n → RisesFrom row_serial m js → RisesFrom row_serial n js
    ap_rise m n js e h = subst (λ k. RisesFrom row_serial k js) e h

-- and with the items of a queue of the state
pub items_rise : (c : Settings) (s : State) (q : Queue) (is : List Item) (n : ℕ) → RisesFrom (λ i. i.serial) n is
    → RisesFrom place_serial n (map (place_of c s q) is)
items_rise c s q [] n r = tt
items_rise c s q (i ∷ is) n r = (r.0, items_rise c s q is (suc i.serial) r.1)

-- what is ahead doesn't change the order
pub ahead_rise : (bs : List Build) (n : ℕ) (ahead : List Item) (ps : List Place) → RisesFrom place_serial n ps → RisesFrom place_serial n (places_after bs ahead ps)
ahead_rise bs n ahead [] r = tt
ahead_rise bs n ahead (p ∷ ps) r = (r.0, ahead_rise bs (suc p.item.serial) (next_ahead bs (with_ahead ahead p)) ps r.1)

pub ahead_with : (bs : List Build) (ahead : List Item) (is : List ItemRow) (ps : List Place) → GoWith is ps → GoWith is (places_after bs ahead ps)
ahead_with bs ahead [] [] g = tt
ahead_with bs ahead [] (p ∷ ps) g = absurd g
ahead_with bs ahead (i ∷ is) [] g = absurd g
ahead_with bs ahead (i ∷ is) (p ∷ ps) g = (g.0, ahead_with bs (next_ahead bs (with_ahead ahead p)) is ps g.1)

-- one more number above the last
pub rise_more : {X : Type 0} (key : X → ℕ) (xs : List X) (i : ℕ) (x y : X) → 1 ≤ i → i < length xs → x ≡ get_or xs i x → y ≡ get_or xs (i - 1) y → key y < key x →
    ((k : ℕ) → k + 1 < i → get_or (map key xs) k 0 < get_or (map key xs) (k + 1) 0) → (k : ℕ) → k + 1 < i + 1 → get_or (map key xs) k 0 < get_or (map key xs) (k + 1) 0
rise_more key xs i x y p l ex ey lt h k b =
    ⊎_elim (λ (c : k + 1 < i). h k c)
    (λ (c : i ≤ k + 1).
    let here : k + 1 ≡ i = omega arith in
    let back : k ≡ i - 1 = omega arith in
    let low : get_or (map key xs) k 0 ≡ key y = ap (λ n. get_or (map key xs) n 0) back ∙ get_or-map key xs (i - 1) y 0 (omega arith) ∙ ap key (sym ey) in
    let high : get_or (map key xs) (k + 1) 0 ≡ key x = ap (λ n. get_or (map key xs) n 0) here ∙ get_or-map key xs i x 0 l ∙ ap key (sym ex) in
    omega arith)
    (cases_lt (k + 1) i)

-- A row put by its key, as SQL does it and as the gate's tables do.
use Rattle.std.proofs.Common.{◌≡◌, ◌≤◌, ◌<◌, ◌<ℤ◌, ◌⊎◌, inl, inr, ℕ, pos, List, [], ◌∷◌, ◌++◌, filter, Option, Some}
use Rattle.std.proofs.Common.{Bool, true, false, not, cond, eqb, ltb, refl, sym, ap, ◌∙◌, arith, int_cmp, Less}
use Rattle.std.proofs.Common.{Greater, IsPermutation}
use Rattle.std.specs.List.{AllByRecursion}
use Rattle.std.specs.Prelude.{find}
use Rattle.std.specs.Ordering.{match_ordering}
use Rattle.std.proofs.lemmas.Bool.Decides.{nat_tests}
use Rattle.std.proofs.lemmas.Int.{ints}
use Rattle.std.proofs.lemmas.List.Sorted.{IsPermutation-refl, IsPermutation-cons, IsPermutation-swap}
use Rattle.std.proofs.lemmas.List.Sorted.{IsPermutation-trans}
use Rattle.sqlite_keyed.specs.Keyed.{IsKeyedBy, insert_by}
use Rattle.gate_types.specs.State.{put_by}
use Rattle.gate_types.proofs.PlainLemmas.{below_or}

cmp_above : (a b : ℕ) → a < b → int_cmp (pos b) (pos a) ≡ Greater
cmp_above a b less = grind (arith, nat_tests, ints)

cmp_below : (a b : ℕ) → b < a → int_cmp (pos b) (pos a) ≡ Less
cmp_below a b less = grind (arith, nat_tests, ints)

module _ {X : Type 0} (key : X → ℕ) where
  -- rows above a key are kept where a row of that key, or of a lower one, is taken out
  none_of : (m n : ℕ) (zs : List X) → m ≤ n → AllByRecursion (λ z. pos n <ℤ pos (key z)) zs → filter (λ z. not (eqb (key z) m)) zs ≡ zs
  none_of m n [] low above = refl
  none_of m n (z ∷ zs) low above =
      let first = above.0 in
      let more : n < key z = omega (arith, ints) in
      let no : eqb (key z) m ≡ false = grind (arith, nat_tests) in
      ap (λ c. cond (not c) (z ∷ filter (λ z. not (eqb (key z) m)) zs) (filter (λ z. not (eqb (key z) m)) zs)) no
      ∙ ap (λ l. z ∷ l) (none_of m n zs low above.1)

  -- and a row of such a key goes in front of them
  in_front : (x : X) (n : ℕ) (zs : List X) → key x ≤ n → AllByRecursion (λ z. pos n <ℤ pos (key z)) zs → insert_by (λ y. pos (key y)) zs x ≡ x ∷ zs
  in_front x n [] low above = refl
  in_front x n (z ∷ zs) low above =
      let first = above.0 in
      let more : n < key z = omega (arith, ints) in
      ap (λ o. match_ordering o (z ∷ insert_by (λ y. pos (key y)) zs x) (x ∷ zs) (x ∷ z ∷ zs)) (cmp_above (key x) (key z) (omega arith))

  -- DELETE by key and INSERT put a row
  pub put_is : (x : X) (xs : List X) → IsKeyedBy (λ y. pos (key y)) xs
      → insert_by (λ y. pos (key y)) (filter (λ y. not (eqb (key y) (key x))) xs) x ≡ put_by key x xs
  put_is x [] up = refl
  put_is x (y ∷ ys) up = go (eqb (key x) (key y)) refl (ltb (key x) (key y)) refl (put_is x ys up.1)
    where
      go : (same : Bool) → eqb (key x) (key y) ≡ same → (less : Bool) → ltb (key x) (key y) ≡ less
          → insert_by (λ z. pos (key z)) (filter (λ z. not (eqb (key z) (key x))) ys) x ≡ put_by key x ys
          → insert_by (λ z. pos (key z)) (filter (λ z. not (eqb (key z) (key x))) (y ∷ ys)) x ≡ put_by key x (y ∷ ys)
      go true e less l more =
          let other : eqb (key y) (key x) ≡ true = grind (arith, nat_tests) in
          let low : key x ≤ key y = grind (arith, nat_tests) in
          let rest = filter (λ z. not (eqb (key z) (key x))) ys in
          ap (λ c. insert_by (λ z. pos (key z)) (cond (not c) (y ∷ rest) rest) x) other
          ∙ ap (λ zs. insert_by (λ z. pos (key z)) zs x) (none_of (key x) (key y) ys low up.0)
          ∙ in_front x (key y) ys low up.0
          ∙ sym (ap (λ c. cond c (x ∷ ys) (cond (ltb (key x) (key y)) (x ∷ y ∷ ys) (y ∷ put_by key x ys))) e)
      go false e true l more =
          let other : eqb (key y) (key x) ≡ false = grind (arith, nat_tests) in
          let below : key x < key y = grind (arith, nat_tests) in
          let rest = filter (λ z. not (eqb (key z) (key x))) ys in
          ap (λ c. insert_by (λ z. pos (key z)) (cond (not c) (y ∷ rest) rest) x) other
          ∙ ap (λ o. match_ordering o (y ∷ insert_by (λ z. pos (key z)) rest x) (x ∷ rest) (x ∷ y ∷ rest)) (cmp_above (key x) (key y) below)
          ∙ ap (λ zs. x ∷ y ∷ zs) (none_of (key x) (key y) ys (omega arith) up.0)
          ∙ sym (ap (λ c. cond c (x ∷ ys) (cond (ltb (key x) (key y)) (x ∷ y ∷ ys) (y ∷ put_by key x ys))) e
          ∙ ap (λ c. cond c (x ∷ y ∷ ys) (y ∷ put_by key x ys)) l)
      go false e false l more =
          let other : eqb (key y) (key x) ≡ false = grind (arith, nat_tests) in
          let above : key y < key x = grind (arith, nat_tests) in
          let rest = filter (λ z. not (eqb (key z) (key x))) ys in
          ap (λ c. insert_by (λ z. pos (key z)) (cond (not c) (y ∷ rest) rest) x) other
          ∙ ap (λ o. match_ordering o (y ∷ insert_by (λ z. pos (key z)) rest x) (x ∷ rest) (x ∷ y ∷ rest)) (cmp_below (key x) (key y) above)
          ∙ ap (λ zs. y ∷ zs) more
          ∙ sym (ap (λ c. cond c (x ∷ ys) (cond (ltb (key x) (key y)) (x ∷ y ∷ ys) (y ∷ put_by key x ys))) e
          ∙ ap (λ c. cond c (x ∷ y ∷ ys) (y ∷ put_by key x ys)) l)

  -- a row whose key is new is added
  pub put_new : (x : X) (ys : List X) → AllByRecursion (λ y. eqb (key y) (key x) ≡ false) ys → IsPermutation (x ∷ ys) (put_by key x ys)
  put_new x [] fresh = IsPermutation-refl (x ∷ [])
  put_new x (y ∷ ys) fresh = go (ltb (key x) (key y)) refl (put_new x ys fresh.1)
    where
      go : (less : Bool) → ltb (key x) (key y) ≡ less → IsPermutation (x ∷ ys) (put_by key x ys) → IsPermutation (x ∷ y ∷ ys) (put_by key x (y ∷ ys))
      go true l more =
          let first = fresh.0 in
          let no : eqb (key x) (key y) ≡ false = grind (arith, nat_tests) in
          rw (no, l) (IsPermutation-refl (x ∷ y ∷ ys))
      go false l more =
          let first = fresh.0 in
          let no : eqb (key x) (key y) ≡ false = grind (arith, nat_tests) in
          rw (no, l) (IsPermutation-trans (x ∷ y ∷ ys) (y ∷ x ∷ ys) (y ∷ put_by key x ys)
          (IsPermutation-swap (x ∷ y ∷ ys) (y ∷ x ∷ ys) 0 1 (omega arith) (omega arith) refl)
          (IsPermutation-cons y (x ∷ ys) (put_by key x ys) more))

  -- a row put before, at and behind the first of others
  pub put_before : (x y : X) (ys : List X) → key x < key y → put_by key x (y ∷ ys) ≡ x ∷ y ∷ ys
  put_before x y ys less =
      let no : eqb (key x) (key y) ≡ false = grind (arith, nat_tests) in
      let yes : ltb (key x) (key y) ≡ true = grind (arith, nat_tests) in
      ap (λ c. cond c (x ∷ ys) (cond (ltb (key x) (key y)) (x ∷ y ∷ ys) (y ∷ put_by key x ys))) no
      ∙ ap (λ c. cond c (x ∷ y ∷ ys) (y ∷ put_by key x ys)) yes

  pub put_first : (x y : X) (ys : List X) → key x ≡ key y → put_by key x (y ∷ ys) ≡ x ∷ ys
  put_first x y ys same =
      let yes : eqb (key x) (key y) ≡ true = grind (arith, nat_tests) in
      ap (λ c. cond c (x ∷ ys) (cond (ltb (key x) (key y)) (x ∷ y ∷ ys) (y ∷ put_by key x ys))) yes

  pub put_after : (x y : X) (ys : List X) → key y < key x → put_by key x (y ∷ ys) ≡ y ∷ put_by key x ys
  put_after x y ys less =
      let no : eqb (key x) (key y) ≡ false = grind (arith, nat_tests) in
      let none : ltb (key x) (key y) ≡ false = grind (arith, nat_tests) in
      ap (λ c. cond c (x ∷ ys) (cond (ltb (key x) (key y)) (x ∷ y ∷ ys) (y ∷ put_by key x ys))) no
      ∙ ap (λ c. cond c (x ∷ y ∷ ys) (y ∷ put_by key x ys)) none

-- ---- what is found at a number after a put

module _ {X : Type 0} (key : X → ℕ) (n : ℕ) (x : X) where
  abbrev at : List X → Option X
  at rows = find (λ y. eqb (key y) n) rows

  pub find_put : (ys : List X) → at (put_by key x ys) ≡ cond (eqb (key x) n) (Some x) (at ys)
  find_put [] = refl
  find_put (y ∷ ys) = by_order (below_or (key x) (key y)) (below_or (key y) (key x)) (find_put ys)
    where
      turned : (a c : Bool) → (a ≡ true → c ≡ false) → cond a (Some y) (cond c (Some x) (at ys)) ≡ cond c (Some x) (cond a (Some y) (at ys))
      turned true c h = ap (λ k. cond k (Some x) (Some y)) (sym (h refl))
      turned false c h = refl

      skips : (c : Bool) → cond c (Some x) (at ys) ≡ cond c (Some x) (cond c (Some y) (at ys))
      skips true = refl
      skips false = refl

      by_order : ((key x < key y) ⊎ (key y ≤ key x)) → ((key y < key x) ⊎ (key x ≤ key y)) → at (put_by key x ys) ≡ cond (eqb (key x) n) (Some x) (at ys)
          → at (put_by key x (y ∷ ys)) ≡ cond (eqb (key x) n) (Some x) (at (y ∷ ys))
      by_order (inl less) other more = ap at (put_before key x y ys less)
      by_order (inr low) (inl less) more =
          ap at (put_after key x y ys less) ∙ ap (λ o. cond (eqb (key y) n) (Some y) o) more
          ∙ turned (eqb (key y) n) (eqb (key x) n) (λ e. grind (arith, nat_tests))
      by_order (inr low) (inr high) more =
          let same : key x ≡ key y = omega arith in
          ap at (put_first key x y ys same) ∙ skips (eqb (key x) n)
          ∙ ap (λ k. cond (eqb (key x) n) (Some x) (cond (eqb k n) (Some y) (at ys))) same

-- ---- two lists one behind the other

pub filter-append : {X : Type 0} (p : X → Bool) (xs ys : List X) → filter p (xs ++ ys) ≡ filter p xs ++ filter p ys
filter-append p [] ys = refl
filter-append p (x ∷ xs) ys =
    ap (λ l. cond (p x) (x ∷ l) l) (filter-append p xs ys)
    ∙ elim (p x) as (λ c. cond c (x ∷ (filter p xs ++ filter p ys)) (filter p xs ++ filter p ys) ≡ cond c (x ∷ filter p xs) (filter p xs) ++ filter p ys) [ true ↦ refl | false ↦ refl ]

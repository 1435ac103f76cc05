-- Records in the order of a number that is of no two the same.
use Rattle.std.proofs.Common.{◌≡◌, ◌≢◌, ◌<◌, ◌<ℤ◌, ℕ, ℤ, suc, pos, List, [], ◌∷◌, refl, arith, int_cmp, Ordering}
use Rattle.std.proofs.Common.{Less, Equal, Greater, IsPermutation}
use Rattle.std.specs.Prelude.{AllPairs}
use Rattle.std.specs.List.{All, AllByRecursion}
use Rattle.std.specs.Ordering.{match_ordering}
use Rattle.std.proofs.lemmas.Bool.Decides.{nat_tests}
use Rattle.std.proofs.lemmas.Int.{ints}
use Rattle.std.proofs.lemmas.List.Elements.{All-from_recursion, recursion_from_All}
use Rattle.std.proofs.lemmas.List.Kept.{AllPairs-cons}
use Rattle.std.proofs.lemmas.List.Sorted.{All-permutation, IsPermutation-cons, IsPermutation-refl, IsPermutation-swap}
use Rattle.std.proofs.lemmas.List.Sorted.{IsPermutation-trans}
use Rattle.sqlite_keyed.specs.Keyed.{IsKeyedBy, insert_by}
use Rattle.sqlite_keyed.proofs.KeyedLemmas.{IsKeyedBy-insert_by}
use Rattle.sqlite_keyed.proofs.ListLemmas.{all_weaker}

-- numbers that tie are one
same_key : (m n : ℕ) → int_cmp (pos n) (pos m) ≡ Equal → m ≡ n
same_key m n e = grind (arith, nat_tests, ints)

module _ {X : Type 0} (key : X → ℕ) where
  -- the number, as the order of a keyed table compares it
  abbrev pub by_key : X → ℤ
  by_key x = pos (key x)

  -- a record whose number is new is added
  insert_new : (x : X) (ys : List X) → AllByRecursion (λ y. key x ≢ key y) ys → IsPermutation (x ∷ ys) (insert_by by_key ys x)
  insert_new x [] fresh = IsPermutation-refl (x ∷ [])
  insert_new x (y ∷ ys) fresh = go (int_cmp (pos (key y)) (pos (key x))) refl (insert_new x ys fresh.1)
    where
      go : (o : Ordering) → int_cmp (pos (key y)) (pos (key x)) ≡ o → IsPermutation (x ∷ ys) (insert_by by_key ys x) →
          IsPermutation (x ∷ y ∷ ys) (match_ordering o (y ∷ insert_by by_key ys x) (x ∷ ys) (x ∷ y ∷ ys))
      go Less e more =
          IsPermutation-trans (x ∷ y ∷ ys) (y ∷ x ∷ ys) (y ∷ insert_by by_key ys x)
          (IsPermutation-swap (x ∷ y ∷ ys) (y ∷ x ∷ ys) 0 1 (omega arith) (omega arith) refl)
          (IsPermutation-cons y (x ∷ ys) (insert_by by_key ys x) more)
      go Equal e more = absurd (fresh.0 (same_key (key x) (key y) e))
      go Greater e more = IsPermutation-refl (x ∷ y ∷ ys)

  -- all of them, put one by one
  abbrev pub in_order : List X → List X
  in_order [] = []
  in_order (x ∷ xs) = insert_by by_key (in_order xs) x

  -- so their numbers rise
  pub in_order_rises : (xs : List X) → IsKeyedBy by_key (in_order xs)
  in_order_rises [] = tt
  in_order_rises (x ∷ xs) = IsKeyedBy-insert_by by_key (in_order xs) x (in_order_rises xs)

  -- what differs pairwise does so behind the first
  tail_differs : (x : X) (xs : List X) → AllPairs (λ x y. key x ≢ key y) (x ∷ xs) → AllPairs (λ x y. key x ≢ key y) xs
  tail_differs x xs differ = λ i j d less within. differ (suc i) (suc j) d (omega arith) (omega arith)

  -- where no two have one number, they are the same records
  pub in_order_same : (xs : List X) → AllPairs (λ x y. key x ≢ key y) xs → IsPermutation xs (in_order xs)
  in_order_same [] differ = IsPermutation-refl []
  in_order_same (x ∷ xs) differ =
      let more = in_order_same xs (tail_differs x xs differ) in
      let apart : All (λ y. key x ≢ key y) xs = λ k d within. differ 0 (suc k) d (omega arith) (omega arith) in
      let fresh = recursion_from_All (λ y. key x ≢ key y) (in_order xs) (All-permutation (λ y. key x ≢ key y) xs (in_order xs) more apart) in
      IsPermutation-trans (x ∷ xs) (x ∷ in_order xs) (in_order (x ∷ xs)) (IsPermutation-cons x xs (in_order xs) more) (insert_new x (in_order xs) fresh)

  -- each number is below each later one
  pub rises_pairwise : (xs : List X) → IsKeyedBy by_key xs → AllPairs (λ x y. key x < key y) xs
  rises_pairwise [] up = λ i j d less within. absurd (omega arith)
  rises_pairwise (x ∷ xs) up =
      AllPairs-cons (λ x y. key x < key y) x xs
      (All-from_recursion (λ y. key x < key y) xs (all_weaker (λ y. pos (key x) <ℤ pos (key y)) _ (λ y less. omega (arith, ints)) xs up.0)) (rises_pairwise xs up.1)

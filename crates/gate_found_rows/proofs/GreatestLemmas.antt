-- The greatest of some numbers stands first among them, where they are put in falling order.
use Rattle.std.proofs.Common.{◌≡◌, ◌≤◌, ◌+◌, ℕ, Ordering, suc, pos, Bool, true, false, cond, List, [], ◌∷◌, fold}
use Rattle.std.proofs.Common.{get_or, map, take, IsPermutation, refl, sym, ap, subst, ◌∙◌, arith, nat_lt, slice_index}
use Rattle.std.proofs.Common.{is_lt, Less, ◌<ℤ◌, true≢false, Result}
use Rattle.std.specs.Prelude.{IsSorted}
use Rattle.std.specs.List.{AllByRecursion}
use Rattle.std.proofs.lemmas.Bool.Decides.{nat_tests}
use Rattle.std.proofs.lemmas.Int.{ints}
use Rattle.std.proofs.lemmas.List.Elements.{All-from_recursion, recursion_from_All}
use Rattle.std.proofs.lemmas.List.Sorted.{All-permutation, IsPermutation-map}
use Rattle.sqlite.specs.Collation.TheVariants.{Binary}
use Rattle.sqlite.specs.Order.{Row}
use Rattle.sqlite.specs.Query.{Output, key_cmp}
use Rattle.sqlite.specs.declared.types.Value.{Value}
use Rattle.sqlite.specs.declared.types.Value.TheVariants.{Int}
use Rattle.sqlite_keyed.proofs.KeyedLemmas.{Less-from_lt}
use Rattle.sqlite_keyed.proofs.ListLemmas.{all-map, along_permutation, map_back, map-map}
use Rattle.sqlite_value.proofs.OrderLemmas.{value_cmp-Int}
use Rattle.sqlite_value.specs.Order.{column}
use Rattle.gate_book_trait.specs.Reads.{Answers}
use Rattle.gate_book_trait.specs.declared.fault.BookFault.{BookFault}
use Rattle.gate_found_rows.specs.Asked.{greatest}
use Rattle.gate_found_rows.specs.Shown.{number_shown}
use Rattle.gate_found_rows.proofs.KeyedReads.{descending}

-- ---- the greatest of a list, in any order

-- the larger of two
abbrev pub larger : ℕ → ℕ → ℕ
larger m n = cond (nat_lt m n) n m

-- it's the same in either order
turned : (a x y : ℕ) → larger (larger a x) y ≡ larger (larger a y) x
turned a x y = grind (arith, nat_tests)

-- the greatest doesn't depend on the order
pub greatest_in_any_order : (xs ys : List ℕ) → IsPermutation xs ys → greatest xs ≡ greatest ys
greatest_in_any_order xs ys same =
    along_permutation (λ (xs ys : List ℕ). (a : ℕ) → fold larger a xs ≡ fold larger a ys)
    (λ xs a. refl) (λ x xs ys h a. h (larger a x)) (λ x y xs a. ap (λ b. fold larger b xs) (turned a x y))
    (λ xs ys zs h k a. h a ∙ k a) xs ys same 0

-- ---- a list in falling order

-- a number as an output, sorted by it
abbrev pub number_output : ℕ → Output
number_output n = (number_shown n, number_shown n)

-- in falling order
abbrev falling_cmp : Output → Output → Ordering
falling_cmp a b = key_cmp 0 (descending Binary ∷ []) a.0 b.0

-- what may follow a number is not above it
not_above : (m n : ℕ) → is_lt (falling_cmp (number_output n) (number_output m)) ≡ false → n ≤ m
not_above m n h = go (nat_lt m n) refl
  where
    go : (b : Bool) → nat_lt m n ≡ b → n ≤ m
    go true e =
        let less : pos m <ℤ pos n = grind (arith, nat_tests, ints) in
        let is : falling_cmp (number_output n) (number_output m) ≡ Less = rw (value_cmp-Int, Less-from_lt _ _ less) in
        absurd (true≢false (sym (ap is_lt is) ∙ h))
    go false e = grind (arith, nat_tests)

-- the rest of a sorted list is sorted
rest_sorted : (o : Output) (os : List Output) → IsSorted falling_cmp (o ∷ os) → IsSorted falling_cmp os
rest_sorted o os sorted k d low high =
    let next : suc k + 1 ≡ suc (k + 1) = omega arith in
    subst (λ j. is_lt (falling_cmp (get_or (o ∷ os) j d) (get_or os k d)) ≡ false) next (sorted (suc k) d (omega arith) (omega arith))

-- nothing in the list is above what is not below its head
none_above : (top m : ℕ) (ms : List ℕ) → m ≤ top → IsSorted falling_cmp (map number_output (m ∷ ms)) → fold larger top ms ≡ top
none_above top m [] low sorted = refl
none_above top m (n ∷ ms) low sorted =
    let less : n ≤ m = not_above m n (sorted 0 (number_output 0) (omega arith) (omega arith)) in
    let still : larger top n ≡ top = grind (arith, nat_tests) in
    ap (λ a. fold larger a ms) still ∙ none_above top n ms (omega arith) (rest_sorted (number_output m) (number_output n ∷ map number_output ms) sorted)

-- the first of numbers in falling order is the greatest
greatest_is_first : (ms : List ℕ) → IsSorted falling_cmp (map number_output ms) → greatest ms ≡ slice_index ms 0
greatest_is_first [] sorted = refl
greatest_is_first (m ∷ ms) sorted =
    let still : larger 0 m ≡ m = grind (arith, nat_tests) in
    ap (λ a. fold larger a ms) still ∙ none_above m m ms (omega arith) sorted

-- ---- outputs in falling order

-- the number in a value
number_of : Value → ℕ
number_of (Int (pos n)) = n
number_of _ = 0

-- the number that an output shows
number_in_output : Output → ℕ
number_in_output o = number_of (column o.1 0)

-- outputs of numbers are the outputs of those numbers
outputs_are : (os : List Output) → AllByRecursion (λ o. o ≡ number_output (number_in_output o)) os → os ≡ map number_output (map number_in_output os)
unfolding number_in_output number_of
outputs_are [] all = refl
outputs_are (o ∷ os) all = ap (λ x. x ∷ os) all.0 ∙ ap (λ l. number_output (number_in_output o) ∷ l) (outputs_are os all.1)

-- rows of one number each, the first of which is the greatest
pub record ShowGreatest (ns : List ℕ) (rows : List Row) : Type 0 where
  pub numbers : List ℕ
  pub rows_are : rows ≡ map number_shown numbers
  pub first : slice_index numbers 0 ≡ greatest ns

-- one row of the outputs in falling order shows the greatest
pub shows_greatest : (ns : List ℕ) (os : List Output) → IsPermutation (map number_output ns) os → IsSorted falling_cmp os
    → ShowGreatest ns (take 1 (map (λ (o : Output). o.1) os))
unfolding number_in_output number_of
shows_greatest ns os same sorted =
    let all = recursion_from_All (λ o. o ≡ number_output (number_in_output o)) os (All-permutation (λ o. o ≡ number_output (number_in_output o)) (map number_output ns) os same
    (All-from_recursion (λ o. o ≡ number_output (number_in_output o)) (map number_output ns) (all-map _ number_output (λ n. refl) ns))) in
    let are : os ≡ map number_output (map number_in_output os) = outputs_are os all in
    let turned : IsPermutation ns (map number_in_output os) = subst (λ l. IsPermutation l (map number_in_output os)) (map_back number_output number_in_output (λ n. refl) ns) (IsPermutation-map number_in_output (map number_output ns) os same) in
    let first : greatest (map number_in_output os) ≡ slice_index (map number_in_output os) 0 = greatest_is_first (map number_in_output os) (subst (IsSorted falling_cmp) are sorted) in
    record {
      numbers = take 1 (map number_in_output os);
      rows_are = ap (λ l. take 1 (map (λ (o : Output). o.1) l)) are ∙ ap (take 1) (map-map _ number_output (map number_in_output os)) ∙ taken (map number_in_output os);
      first = first_taken (map number_in_output os) ∙ sym first ∙ sym (greatest_in_any_order ns (map number_in_output os) turned);
    }
  where
    taken : (ms : List ℕ) → take 1 (map number_shown ms) ≡ map number_shown (take 1 ms)
    taken [] = refl
    taken (m ∷ ms) = refl

    first_taken : (ms : List ℕ) → slice_index (take 1 ms) 0 ≡ slice_index ms 0
    first_taken [] = refl
    first_taken (m ∷ ms) = refl

-- who reads the first number reads the greatest
pub answers_greatest : (ns : List ℕ) (rows : List Row) (r : Result ℕ BookFault) → ShowGreatest ns rows → ((ms : List ℕ) → rows ≡ map number_shown ms → Answers (slice_index ms 0) r) → Answers (greatest ns) r
answers_greatest ns rows r best read = subst (λ n. Answers n r) best.first (read best.numbers best.rows_are)

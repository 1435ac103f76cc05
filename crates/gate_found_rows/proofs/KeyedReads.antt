-- What a query of a table whose key is the rowid finds, as records.
use Rattle.std.proofs.Common.{◌≡◌, ◌≤◌, ◌<ℤ◌, ℕ, pos, List, [], ◌∷◌, map, filter, reverse, length, Bool, true, false}
use Rattle.std.proofs.Common.{Some, eqb, ltb, is_lt, refl, sym, ap, subst, ◌∙◌, arith, IsPermutation, Less}
use Rattle.std.specs.List.{AllByRecursion, AllPairs}
use Rattle.std.proofs.lemmas.Bool.Decides.{nat_tests}
use Rattle.std.proofs.lemmas.Int.{ints}
use Rattle.std.proofs.lemmas.List.{length-map, reverse-append}
use Rattle.std.proofs.lemmas.List.Kept.{AllPairs-filter}
use Rattle.std.proofs.lemmas.List.Elements.{All-from_recursion, recursion_from_All}
use Rattle.std.proofs.lemmas.List.Sorted.{All-permutation, IsPermutation-map, IsPermutation-reverse}
use Rattle.std.proofs.lemmas.List.Sorted.{IsPermutation-sym, IsPermutation-trans}
use Rattle.sqlite.specs.Collation.TheVariants.{Binary}
use Rattle.sqlite.specs.Ops.{binary, from_truth, is_true}
use Rattle.sqlite.specs.Order.{Row}
use Rattle.sqlite.specs.Query.{Output, IsAnswer, key_cmp, output, output_cmp, page}
use Rattle.sqlite.specs.Term.{Term, col, eval_all}
use Rattle.sqlite.specs.Tree.{Trees}
use Rattle.sqlite.specs.declared.types.Value.TheVariants.{Int}
use Rattle.sqlite_keyed.specs.Keyed.{IsKeyedBy}
use Rattle.sqlite_keyed.proofs.KeyedLemmas.{Less-from_lt}
use Rattle.sqlite_keyed.proofs.ListLemmas.{all_weaker, ascending-append, ascending-filter, ascending-map}
use Rattle.sqlite_keyed.proofs.ListLemmas.{ascending_weaker, filter-map, filter_same, map-map, map_same}
use Rattle.sqlite_keyed.proofs.SortLemmas.{sorted_unique}
use Rattle.sqlite_sql.proofs.QueryLemmas.{output_cmp_total}
use Rattle.sqlite_sql.specs.declared.ops.BinaryOp.TheVariants.{Compare}
use Rattle.sqlite_sql.specs.declared.ops.CompareOp.TheVariants.{Lt}
use Rattle.sqlite_trees.specs.Tree.{IsAscending}
use Rattle.sqlite_value.proofs.OrderLemmas.{value_cmp-Int}
use Rattle.sqlite_value.specs.Keys.{ascending}
use Rattle.sqlite_value.specs.declared.keys.Collation.{Collation}
use Rattle.sqlite_value.specs.declared.keys.Key.{Key}
use Rattle.gate_schema.specs.Rows.{IsKeyed}
use Rattle.gate_schema.proofs.QueryLemmas.{kept_is, over_table, passes, shows_few, shows_in_order}
use Rattle.gate_schema.proofs.Statements.{rising}
use Rattle.gate_schema.proofs.ValueLemmas.{value_cmp-pos}
use Rattle.gate_found_rows.proofs.ListFacts.{passing}

-- greatest first
abbrev pub descending : Collation → Key
descending c = record { collation = c; descending = true }

-- by falling rowid
abbrev pub falling : List (Term × Key)
falling = (col 1 0, descending Binary) ∷ []

-- ---- a number below another, as SQL compares them

-- a test says what it found
pub truth_of : (b : Bool) → is_true (from_truth (Some b)) ≡ b
truth_of true = refl
truth_of false = refl

-- `<` of numbers
pub below_number : (a b : ℕ) → is_true (binary (Compare Lt Binary) (Int (pos a)) (Int (pos b))) ≡ ltb a b
unfolding binary
below_number a b = truth_of _ ∙ ap is_lt (value_cmp-pos a b) ∙ grind (arith, nat_tests)

-- ---- one record at most has a key

-- no record has a key that is below all
none_at : {X : Type 0} (key : X → ℕ) (n : ℕ) (xs : List X) → AllByRecursion (λ x. pos n <ℤ pos (key x)) xs → filter (λ x. eqb (key x) n) xs ≡ []
none_at key n [] above = refl
none_at key n (x ∷ xs) above =
    let below = above.0 in
    let apart : eqb (key x) n ≡ false = grind (arith, nat_tests, ints) in
    rw apart (none_at key n xs above.1)

-- where keys rise, a key is of one record
pub one_at : {X : Type 0} (key : X → ℕ) (n : ℕ) (xs : List X) → IsKeyedBy (λ x. pos (key x)) xs → length (filter (λ x. eqb (key x) n) xs) ≤ 1
one_at key n [] up = omega arith
one_at key n (x ∷ xs) up = go (eqb (key x) n) refl (one_at key n xs up.1)
  where
    go : (b : Bool) → eqb (key x) n ≡ b → length (filter (λ x. eqb (key x) n) xs) ≤ 1 → length (filter (λ x. eqb (key x) n) (x ∷ xs)) ≤ 1
    go true e more =
        let same : key x ≡ n = grind (arith, nat_tests) in
        rw (e, none_at key n xs (subst (λ m. AllByRecursion (λ y. pos m <ℤ pos (key y)) xs) same up.0)) (omega arith)
    go false e more = rw e more

-- ---- one record at most passes, where no two do

-- of records that all pass there is one
one_apart : {X : Type 0} (p : X → Bool) (xs : List X) → AllPairs (λ x y. p x ≡ true → p y ≡ true → ⊥) xs → AllByRecursion (λ x. p x ≡ true) xs → length xs ≤ 1
one_apart p [] apart pass = omega arith
one_apart p (x ∷ []) apart pass = omega arith
one_apart p (x ∷ y ∷ xs) apart pass = absurd (apart 0 1 x (omega arith) (omega arith) pass.0 pass.1.0)

-- so it is of those that pass
pub one_passes : {X : Type 0} (p : X → Bool) (xs : List X) → AllPairs (λ x y. p x ≡ true → p y ≡ true → ⊥) xs → length (filter p xs) ≤ 1
one_passes p xs differ = one_apart p (filter p xs) (AllPairs-filter (λ x y. p x ≡ true → p y ≡ true → ⊥) p xs differ) (passing p xs)

-- ---- a list turned round

-- what rises falls when it is turned round
ascending-reverse : {X : Type 0} (R : X → X → Type 0) (xs : List X) → IsAscending R xs → IsAscending (λ a b. R b a) (reverse xs)
ascending-reverse R [] up = tt
ascending-reverse R (x ∷ xs) up =
    let later : AllByRecursion (R x) (reverse xs) = recursion_from_All (R x) (reverse xs) (All-permutation (R x) xs (reverse xs) (IsPermutation-reverse xs) (All-from_recursion (R x) xs up.0)) in
    subst (IsAscending (λ a b. R b a)) (sym (reverse-append (x ∷ []) xs))
    (ascending-append (λ a b. R b a) (reverse xs) (x ∷ []) (ascending-reverse R xs up.1) (tt, tt) (all_weaker (R x) _ (λ y h. (h, tt)) (reverse xs) later))

-- ---- numbers in the order of a key

-- rising, a lesser number comes first
pub rises : (r s : Row) (a b : ℕ) → r ≡ Int (pos a) ∷ [] → s ≡ Int (pos b) ∷ [] → pos a <ℤ pos b → key_cmp 0 (ascending Binary ∷ []) r s ≡ Less
rises r s a b e f less = rw (e, f, value_cmp-Int, Less-from_lt _ _ less)

-- falling, a greater one does
falls : (r s : Row) (a b : ℕ) → r ≡ Int (pos a) ∷ [] → s ≡ Int (pos b) ∷ [] → pos b <ℤ pos a → key_cmp 0 (descending Binary ∷ []) r s ≡ Less
falls r s a b e f less = rw (e, f, value_cmp-Int, Less-from_lt _ _ less)

-- ---- what is found

module _ {X : Type 0} (key : X → ℕ) (row : X → Row) (shown : X → Row) (tree : ℕ) (test project : List Term) (limit : Term)
    (params : Row) (p : X → Bool) (same : (x : X) → passes test params (row x) ≡ p x)
    (shows : (x : X) → eval_all project (params ∷ row x ∷ []) ≡ shown x) where
  -- the rows that pass are those of the records that do
  kept : (db : Trees) (xs : List X) → IsKeyed key row (db tree) xs → filter (passes test params) (db tree) ≡ map row (filter p xs)
  kept db xs holds = ap (filter (passes test params)) holds.rows_are ∙ filter-map _ row xs ∙ ap (map row) (filter_same _ _ same xs)

  -- each is shown as its record is
  all_shown : (ys : List X) → map (λ (r : Row). eval_all project (params ∷ r ∷ [])) (map row ys) ≡ map shown ys
  all_shown ys = map-map _ row ys ∙ map_same _ _ shows ys

  -- in no order, where one at most passes
  pub finds_few : (db : Trees) (xs : List X) (rows : List Row) → IsKeyed key row (db tree) xs → length (filter p xs) ≤ 1 →
      IsAnswer (over_table tree test project [] limit) db params rows →
      rows ≡ page (over_table tree test project [] limit) params (map shown (filter p xs))
  finds_few db xs rows holds few a =
      let short : length (filter (passes test params) (db tree)) ≤ 1 = rw (kept db xs holds) (simp length-map few) in
      shows_few tree test project [] limit db params rows short a
      ∙ ap (page (over_table tree test project [] limit) params) (ap (map _) (kept db xs holds) ∙ all_shown (filter p xs))

  module _ (id : (x : X) → eval_all (col 1 0 ∷ []) (params ∷ row x ∷ []) ≡ Int (pos (key x)) ∷ []) (db : Trees) (xs : List X)
      (rows : List Row) (holds : IsKeyed key row (db tree) xs) where
    -- by rising key
    pub finds_rising : IsAnswer (over_table tree test project rising limit) db params rows →
        rows ≡ page (over_table tree test project rising limit) params (map shown (filter p xs))
    finds_rising a =
        let q = over_table tree test project rising limit in
        let up : IsAscending (λ x y. output_cmp q x y ≡ Less) (map (λ x. output q (params ∷ row x ∷ [])) (filter p xs)) =
        ascending-map _ (λ x. output q (params ∷ row x ∷ [])) _
        (ascending_weaker (λ x y. pos (key x) <ℤ pos (key y)) (λ x y. output_cmp q (output q (params ∷ row x ∷ [])) (output q (params ∷ row y ∷ [])) ≡ Less)
        (λ x y less. rises _ _ _ _ (id x) (id y) less) _ (ascending-filter _ p xs holds.in_order)) in
        let rise = subst (λ os. IsAscending (λ x y. output_cmp q x y ≡ Less) os) (sym (ap (map (λ (r : Row). output q (params ∷ r ∷ []))) (kept db xs holds) ∙ map-map _ row _)) up in
        shows_in_order tree test project rising limit db params rows rise a
        ∙ ap (page q params) (ap (map _) (kept db xs holds) ∙ all_shown (filter p xs))

    -- by falling key
    pub finds_falling : IsAnswer (over_table tree test project falling limit) db params rows →
        rows ≡ page (over_table tree test project falling limit) params (map shown (reverse (filter p xs)))
    finds_falling a =
        let q = over_table tree test project falling limit in
        let up : IsAscending (λ x y. output_cmp q x y ≡ Less) (map (λ x. output q (params ∷ row x ∷ [])) (reverse (filter p xs))) =
        ascending-map _ (λ x. output q (params ∷ row x ∷ [])) _
        (ascending_weaker (λ x y. pos (key y) <ℤ pos (key x)) (λ x y. output_cmp q (output q (params ∷ row x ∷ [])) (output q (params ∷ row y ∷ [])) ≡ Less)
        (λ x y less. falls _ _ _ _ (id x) (id y) less) _ (ascending-reverse _ (filter p xs) (ascending-filter _ p xs holds.in_order))) in
        let all : a.kept ≡ map (λ x. output q (params ∷ row x ∷ [])) (filter p xs) =
        kept_is tree test project falling limit db params rows a ∙ ap (map _) (kept db xs holds) ∙ map-map _ row _ in
        let turned : IsPermutation (map (λ x. output q (params ∷ row x ∷ [])) (reverse (filter p xs))) a.ordered =
        IsPermutation-trans _ _ _ (IsPermutation-map (λ x. output q (params ∷ row x ∷ [])) _ _ (IsPermutation-sym _ _ (IsPermutation-reverse (filter p xs)))) (subst (λ k. IsPermutation k a.ordered) all a.same) in
        let is : a.ordered ≡ map (λ x. output q (params ∷ row x ∷ [])) (reverse (filter p xs)) = sorted_unique (output_cmp q) (output_cmp_total q) _ _ up turned a.sorted in
        a.shown ∙ ap (λ os. page q params (map (λ (o : Output). o.1) os)) is ∙ ap (page q params) (map-map _ _ _ ∙ map_same _ _ shows _)

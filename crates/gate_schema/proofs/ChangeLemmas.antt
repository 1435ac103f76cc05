-- Rows changed where they stand, put and taken out, and the records beside them.
use Rattle.std.proofs.Common.{◌≡◌, ◌≤◌, ℕ, pos, List, [], ◌∷◌, map, drop, filter, length, Bool, true, false, not}
use Rattle.std.proofs.Common.{cond, IsTrue, refl, sym, ap, subst, ◌∙◌, arith, is_eq, Ordering, Less, Equal, Greater}
use Rattle.std.proofs.Common.{int_cmp, eqb, ltb}
use Rattle.std.proofs.lemmas.Bool.{or_parts}
use Rattle.std.proofs.lemmas.Bool.Decides.{nat_tests}
use Rattle.std.proofs.lemmas.List.Elements.{filter_passes, recursion_from_All}
use Rattle.std.proofs.lemmas.List.Sorted.{IsPermutation-refl}
use Rattle.std.specs.List.{AllByRecursion, list_any}
use Rattle.std.specs.Ordering.{match_ordering, ordering_reverse}
use Rattle.std.proofs.lemmas.Cmp.{tied_itself}
use Rattle.sqlite.specs.Order.{Row, value_cmp}
use Rattle.sqlite.specs.declared.types.Value.TheVariants.{Int}
use Rattle.sqlite.specs.Edit.{id_in, put_all, without_all}
use Rattle.sqlite_trees.specs.Tree.{rowid, put_row, without_rowid, has_rowid}
use Rattle.sqlite_trees.specs.View.{is_int}
use Rattle.sqlite_value.proofs.OrderLemmas.{value_cmp_total, value_cmp-Int}
use Rattle.sqlite_keyed.specs.Keyed.{IsKeyedBy, insert_by}
use Rattle.sqlite_keyed.proofs.KeyedLemmas.{Less-from_lt, IsKeyedBy-insert_by}
use Rattle.sqlite_keyed.proofs.ListLemmas.{ascending-map, ascending_weaker, ascending-filter, filter-map, filter_same}
use Rattle.sqlite_keyed.proofs.ListLemmas.{map-map, map_same}
use Rattle.sqlite_keyed.proofs.RuleLemmas.{at_most_one}
use Rattle.gate_schema.specs.Edits.{insert_if}
use Rattle.gate_schema.specs.Rows.{IsNumbered, IsKeyed}
use Rattle.gate_schema.proofs.DeleteLemmas.{is_its, leaves_others}
use Rattle.gate_schema.proofs.ValueLemmas.{value_cmp-pos}

abbrev pub changed : {X : Type 0} → (X → Bool) → (X → X) → List X → List X
changed p f xs = map (λ x. cond (p x) (f x) x) xs

none_changed : {X : Type 0} (p : X → Bool) (f : X → X) (xs : List X) → filter p xs ≡ [] → changed p f xs ≡ xs
none_changed p f [] none = refl
none_changed p f (x ∷ xs) none = go (p x) refl none (none_changed p f xs)
  where
    go : (b : Bool) → p x ≡ b → cond b (x ∷ filter p xs) (filter p xs) ≡ [] → (filter p xs ≡ [] → changed p f xs ≡ xs) → changed p f (x ∷ xs) ≡ x ∷ xs
    go true e h more = absurd cc
    go false e h more = rw (e, more h)

all_filter : {X : Type 0} (P : X → Type 0) (p : X → Bool) (xs : List X) → AllByRecursion P xs → AllByRecursion P (filter p xs)
all_filter P p [] all = tt
all_filter P p (x ∷ xs) all = elim (p x) as (λ b. AllByRecursion P (cond b (x ∷ filter p xs) (filter p xs))) [ true ↦ (all.0, all_filter P p xs all.1) | false ↦ all_filter P p xs all.1 ]

above : (a b : Row) → value_cmp (rowid a) (rowid b) ≡ Less → value_cmp (rowid b) (rowid a) ≡ Greater
above a b less = value_cmp_total.antisymm (rowid b) (rowid a) ∙ ap ordering_reverse less

kept_apart : (x : Row) (xs : List Row) → IsTrue (is_int (rowid x)) → AllByRecursion (λ y. value_cmp (rowid x) (rowid y) ≡ Less) xs → without_rowid (id_in (rowid x)) xs ≡ xs
kept_apart x [] its low = refl
kept_apart x (y ∷ ys) its low =
    let no : has_rowid (id_in (rowid x)) y ≡ false = ap is_eq (ap (value_cmp (rowid y)) (sym (is_its (rowid x) its)) ∙ above x y low.0) in
    rw (no, kept_apart x ys its low.1)

put_first : (new x : Row) (xs : List Row) → rowid new ≡ rowid x → AllByRecursion (λ y. value_cmp (rowid x) (rowid y) ≡ Less) xs → put_row new xs ≡ new ∷ xs
put_first new x [] same low = refl
put_first new x (y ∷ ys) same low =
    let o : value_cmp (rowid y) (rowid new) ≡ Greater = ap (value_cmp (rowid y)) same ∙ above x y low.0 in
    ap (λ o. match_ordering o (y ∷ put_row new ys) (new ∷ ys) (new ∷ y ∷ ys)) o

module _ (p : Row → Bool) (new : Row → Row) where
  replaced : (r : Row) (rows : List Row) → IsNumbered rows → filter p rows ≡ r ∷ [] → rowid (new r) ≡ rowid r
      → put_row (new r) (without_rowid (id_in (rowid r)) rows) ≡ changed p new rows
  replaced r [] numbered only same = absurd cc
  replaced r (x ∷ xs) numbered only same = go (p x) refl only (λ h. replaced r xs (numbered.0.1, numbered.1.1) h same)
    where
      go : (b : Bool) → p x ≡ b → cond b (x ∷ filter p xs) (filter p xs) ≡ r ∷ [] → (filter p xs ≡ r ∷ [] → put_row (new r) (without_rowid (id_in (rowid r)) xs) ≡ changed p new xs)
          → put_row (new r) (without_rowid (id_in (rowid r)) (x ∷ xs)) ≡ changed p new (x ∷ xs)
      go true e h more =
          let is : x ≡ r = cc in
          let none : filter p xs ≡ [] = cc in
          let id = id_in (rowid x) in
          let its = is_its (rowid x) numbered.1.0 in
          let own : has_rowid id x ≡ true = ap is_eq (ap (value_cmp (rowid x)) (sym its) ∙ tied_itself value_cmp_total (rowid x)) in
          let mine : rowid (new x) ≡ rowid x = ap (λ y. rowid (new y)) is ∙ same ∙ ap rowid (sym is) in
          let left : without_rowid id (x ∷ xs) ≡ xs = ap (λ b. cond (not b) (x ∷ without_rowid id xs) (without_rowid id xs)) own ∙ kept_apart x xs numbered.1.0 numbered.0.0 in
          ap (λ y. put_row (new y) (without_rowid (id_in (rowid y)) (x ∷ xs))) (sym is) ∙ ap (put_row (new x)) left ∙ put_first (new x) x xs mine numbered.0.0
          ∙ ap (λ l. new x ∷ l) (sym (none_changed p new xs none)) ∙ ap (λ b. cond b (new x) x ∷ changed p new xs) (sym e)
      go false e h more =
          let below : value_cmp (rowid x) (rowid r) ≡ Less = (subst (λ l. AllByRecursion (λ y. value_cmp (rowid x) (rowid y) ≡ Less) l) h (all_filter _ p xs numbered.0.0)).0 in
          let its : IsTrue (is_int (rowid r)) = (subst (λ l. AllByRecursion (λ y. IsTrue (is_int (rowid y))) l) h (all_filter _ p xs numbered.1.1)).0 in
          let no : has_rowid (id_in (rowid r)) x ≡ false = ap is_eq (ap (value_cmp (rowid x)) (sym (is_its (rowid r) its)) ∙ below) in
          let o : value_cmp (rowid x) (rowid (new r)) ≡ Less = ap (value_cmp (rowid x)) same ∙ below in
          let rest = without_rowid (id_in (rowid r)) xs in
          ap (λ b. put_row (new r) (cond (not b) (x ∷ rest) rest)) no ∙ ap (λ o. match_ordering o (x ∷ put_row (new r) rest) (new r ∷ rest) (new r ∷ x ∷ rest)) o
          ∙ ap (λ l. x ∷ l) (more h) ∙ ap (λ b. cond b (new x) x ∷ changed p new xs) (sym e)

  -- What an UPDATE that finds one row at most makes of the rows.
  pub updated_rows : (rows : List Row) → IsNumbered rows → ((r : Row) → IsTrue (is_int (rowid r)) → rowid (new r) ≡ rowid r) → length (filter p rows) ≤ 1
      → put_all (without_all rows (map (λ r. id_in (rowid r)) (filter p rows))) (map new (filter p rows)) ≡ changed p new rows
  updated_rows rows numbered same short = go (filter p rows) refl short
    where
      go : (found : List Row) → filter p rows ≡ found → length found ≤ 1 → put_all (without_all rows (map (λ r. id_in (rowid r)) found)) (map new found) ≡ changed p new rows
      go [] e short = sym (none_changed p new rows e)
      go (r ∷ []) e short =
          let its : IsTrue (is_int (rowid r)) = (subst (λ l. AllByRecursion (λ y. IsTrue (is_int (rowid y))) l) e (all_filter _ p rows numbered.1)).0 in
          replaced r rows numbered e (same r its)
      go (r ∷ s ∷ more) e short = absurd (omega arith)

-- ---- records with a key

module _ {X : Type 0} (key : X → ℕ) (row : X → Row) (id : (x : X) → rowid (row x) ≡ Int (pos (key x))) where
  ids_int : (xs : List X) → AllByRecursion (λ r. IsTrue (is_int (rowid r))) (map row xs)
  ids_int [] = tt
  ids_int (x ∷ xs) = (subst (λ v. IsTrue (is_int v)) (sym (id x)) refl, ids_int xs)

  pub keyed_numbered : (rs : List Row) (xs : List X) → IsKeyed key row rs xs → IsNumbered rs
  keyed_numbered rs xs h =
      subst IsNumbered (sym h.rows_are)
      (ascending-map _ row xs (ascending_weaker _ _ (λ a b less. ap (λ v. value_cmp v (rowid (row b))) (id a) ∙ ap (value_cmp (Int (pos (key a)))) (id b) ∙ value_cmp-Int (pos (key a)) (pos (key b)) ∙ Less-from_lt _ _ less) xs h.in_order), ids_int xs)

  put_is : (x : X) (xs : List X) → put_row (row x) (map row xs) ≡ map row (insert_by (λ y. pos (key y)) xs x)
  put_is x [] = refl
  put_is x (y ∷ ys) =
      ap (λ v. match_ordering (value_cmp v (rowid (row x))) (row y ∷ put_row (row x) (map row ys)) (row x ∷ map row ys) (row x ∷ row y ∷ map row ys)) (id y)
      ∙ ap (λ v. match_ordering (value_cmp (Int (pos (key y))) v) (row y ∷ put_row (row x) (map row ys)) (row x ∷ map row ys) (row x ∷ row y ∷ map row ys)) (id x)
      ∙ ap (λ o. match_ordering o (row y ∷ put_row (row x) (map row ys)) (row x ∷ map row ys) (row x ∷ row y ∷ map row ys)) (value_cmp-Int _ _)
      ∙ go (int_cmp (pos (key y)) (pos (key x))) (put_is x ys)
    where
      go : (o : Ordering) → put_row (row x) (map row ys) ≡ map row (insert_by (λ y. pos (key y)) ys x) → match_ordering o (row y ∷ put_row (row x) (map row ys)) (row x ∷ map row ys) (row x ∷ row y ∷ map row ys)
          ≡ map row (match_ordering o (y ∷ insert_by (λ y. pos (key y)) ys x) (x ∷ ys) (x ∷ y ∷ ys))
      go Less more = ap (λ l. row y ∷ l) more
      go Equal more = refl
      go Greater more = refl

  pub keyed_put : (x : X) (rs : List Row) (xs : List X) → IsKeyed key row rs xs → IsKeyed key row (put_row (row x) rs) (insert_by (λ y. pos (key y)) xs x)
  keyed_put x rs xs h = record { rows_are = ap (put_row (row x)) h.rows_are ∙ put_is x xs; in_order = IsKeyedBy-insert_by (λ y. pos (key y)) xs x h.in_order }

  pub keyed_without : (test : Row → Bool) (p : X → Bool) → ((x : X) → test (row x) ≡ p x) → (rs : List Row) (xs : List X) → IsKeyed key row rs xs → IsKeyed key row (filter (λ r. not (test r)) rs) (filter (λ x. not (p x)) xs)
  keyed_without test p same rs xs h = record {
    rows_are = ap (filter (λ r. not (test r))) h.rows_are ∙ filter-map (λ r. not (test r)) row xs ∙ ap (map row) (filter_same _ _ (λ x. ap not (same x)) xs);
    in_order = ascending-filter _ (λ x. not (p x)) xs h.in_order;
  }

  pub keyed_found : (test : Row → Bool) (p : X → Bool) → ((x : X) → test (row x) ≡ p x) → (rs : List Row) (xs : List X) → IsKeyed key row rs xs → filter test rs ≡ map row (filter p xs)
  keyed_found test p same rs xs h = ap (filter test) h.rows_are ∙ filter-map test row xs ∙ ap (map row) (filter_same _ _ same xs)

  -- one record at most has a key
  pub one_keyed : (n : ℕ) (p : X → Bool) → ((x : X) → p x ≡ true → eqb (key x) n ≡ true) → (xs : List X) → IsKeyedBy (λ x. pos (key x)) xs → length (filter p xs) ≤ 1
  one_keyed n p its xs up = at_most_one (λ x. pos (key x)) (pos n) p (λ x e. let same = its x e in grind (arith, nat_tests)) xs up

  -- a rowid that no row has is the key of no record
  pub none_has : (n : ℕ) (xs : List X) → list_any (λ (r : Row). is_eq (value_cmp (rowid r) (Int (pos n)))) (map row xs) ≡ false → AllByRecursion (λ x. eqb (key x) n ≡ false) xs
  none_has n [] none = tt
  none_has n (x ∷ xs) none =
      let same : is_eq (value_cmp (rowid (row x)) (Int (pos n))) ≡ eqb (key x) n =
      ap (λ v. is_eq (value_cmp v (Int (pos n)))) (id x) ∙ ap is_eq (value_cmp-pos (key x) n) ∙ grind (arith, nat_tests) in
      let parts = or_parts _ _ none in
      (sym same ∙ parts.0, none_has n xs parts.1)

  -- Where an UPDATE makes one row of each that it finds, and finds one at most, that one is taken out and the row is put.
  pub keyed_set : (test : Row → Bool) (new : Row → Row) (p : X → Bool) (x : X) → ((y : X) → test (row y) ≡ p y) → ((y : X) → p y ≡ true → new (row y) ≡ row x)
      → (rs : List Row) (xs : List X) → IsKeyed key row rs xs → length (filter p xs) ≤ 1
      → IsKeyed key row (put_all (without_all rs (map (λ r. id_in (rowid r)) (filter test rs))) (map new (filter test rs))) (insert_if (ltb 0 (length (filter p xs))) key (filter (λ y. not (p y)) xs) x)
  keyed_set test new p x same made rs xs h short =
      let others = filter (λ y. not (p y)) xs in
      let then = λ (left found : List Row). IsKeyed key row (put_all left (map new found)) (insert_if (ltb 0 (length (filter p xs))) key others x) in
      subst (λ left. then left (filter test rs)) (sym (leaves_others test rs _ (keyed_numbered rs xs h) (IsPermutation-refl _)))
      (subst (then (filter (λ r. not (test r)) rs)) (sym (keyed_found test p same rs xs h))
      (go (filter (λ r. not (test r)) rs) others (keyed_without test p same rs xs h) (filter p xs) (recursion_from_All _ _ (filter_passes p xs)) short))
    where
      go : (left : List Row) (others : List X) → IsKeyed key row left others → (found : List X) → AllByRecursion (λ y. p y ≡ true) found → length found ≤ 1
          → IsKeyed key row (put_all left (map new (map row found))) (insert_if (ltb 0 (length found)) key others x)
      go left others rest [] all short = rest
      go left others rest (y ∷ []) all short = subst (λ r. IsKeyed key row (put_row r left) (insert_by (λ y. pos (key y)) others x)) (sym (made y all.0)) (keyed_put x left others rest)
      go left others rest (y ∷ z ∷ found) all short = absurd (omega arith)

  pub keyed_changed : (test : Row → Bool) (new : Row → Row) (p : X → Bool) (f : X → X) → ((x : X) → test (row x) ≡ p x) → ((x : X) → new (row x) ≡ row (f x)) → ((x : X) → key (f x) ≡ key x)
      → (rs : List Row) (xs : List X) → IsKeyed key row rs xs → IsKeyed key row (changed test new rs) (changed p f xs)
  keyed_changed test new p f same made kept rs xs h = record {
    rows_are = ap (changed test new) h.rows_are ∙ map-map _ row xs ∙ map_same _ _ each xs ∙ sym (map-map row _ xs);
    in_order = ascending-map (λ a b. Rattle.std.proofs.Common.◌<ℤ◌ (pos (key a)) (pos (key b))) (λ x. cond (p x) (f x) x) xs
        (ascending_weaker _ _ (λ a b less. subst (λ n. Rattle.std.proofs.Common.◌<ℤ◌ (pos n) (pos (key (cond (p b) (f b) b)))) (sym (still a (p a))) (subst (λ n. Rattle.std.proofs.Common.◌<ℤ◌ (pos (key a)) (pos n)) (sym (still b (p b))) less)) xs h.in_order);
  }
    where
      each : (x : X) → cond (test (row x)) (new (row x)) (row x) ≡ row (cond (p x) (f x) x)
      each x = ap (λ b. cond b (new (row x)) (row x)) (same x) ∙ ap (λ r. cond (p x) r (row x)) (made x) ∙ elim (p x) as (λ b. cond b (row (f x)) (row x) ≡ row (cond b (f x) x)) [ true ↦ refl | false ↦ refl ]

      still : (x : X) (b : Bool) → key (cond b (f x) x) ≡ key x
      still x true = kept x
      still x false = refl

-- ---- records without one

module _ {X : Type 0} (columns : X → Row) where
  pub listed_without : (test : Row → Bool) (p : X → Bool) → ((v : Row) (x : X) → drop 1 v ≡ columns x → test v ≡ p x) → (rs : List Row) (xs : List X) → map (drop 1) rs ≡ map columns xs
      → map (drop 1) (filter (λ r. not (test r)) rs) ≡ map columns (filter (λ x. not (p x)) xs)
  listed_without test p same [] [] h = refl
  listed_without test p same [] (x ∷ xs) h = absurd cc
  listed_without test p same (r ∷ rs) [] h = absurd cc
  listed_without test p same (r ∷ rs) (x ∷ xs) h =
      let first : drop 1 r ≡ columns x = cc in
      let rest : map (drop 1) rs ≡ map columns xs = cc in
      let more = listed_without test p same rs xs rest in
      ap (λ b. map (drop 1) (cond (not b) (r ∷ filter (λ r. not (test r)) rs) (filter (λ r. not (test r)) rs))) (same r x first)
      ∙ elim (p x) as (λ b. map (drop 1) (cond (not b) (r ∷ filter (λ r. not (test r)) rs) (filter (λ r. not (test r)) rs)) ≡ map columns (cond (not b) (x ∷ filter (λ x. not (p x)) xs) (filter (λ x. not (p x)) xs)))
      [ true ↦ more | false ↦ ap (λ c. c ∷ map (drop 1) (filter (λ r. not (test r)) rs)) first ∙ ap (λ l. columns x ∷ l) more ]

  pub listed_changed : (test : Row → Bool) (new : Row → Row) (p : X → Bool) (f : X → X) → ((v : Row) (x : X) → drop 1 v ≡ columns x → test v ≡ p x) → ((v : Row) (x : X) → drop 1 v ≡ columns x → drop 1 (new v) ≡ columns (f x))
      → (rs : List Row) (xs : List X) → map (drop 1) rs ≡ map columns xs → map (drop 1) (changed test new rs) ≡ map columns (changed p f xs)
  listed_changed test new p f same made [] [] h = refl
  listed_changed test new p f same made [] (x ∷ xs) h = absurd cc
  listed_changed test new p f same made (r ∷ rs) [] h = absurd cc
  listed_changed test new p f same made (r ∷ rs) (x ∷ xs) h =
      let first : drop 1 r ≡ columns x = cc in
      let rest : map (drop 1) rs ≡ map columns xs = cc in
      ap (λ b. drop 1 (cond b (new r) r) ∷ map (drop 1) (changed test new rs)) (same r x first)
      ∙ ap (λ l. drop 1 (cond (p x) (new r) r) ∷ l) (listed_changed test new p f same made rs xs rest)
      ∙ ap (λ c. c ∷ map columns (changed p f xs)) (elim (p x) as (λ b. drop 1 (cond b (new r) r) ≡ columns (cond b (f x) x)) [ true ↦ made r x first | false ↦ first ])

pub numbered_filter : (p : Row → Bool) (rs : List Row) → IsNumbered rs → IsNumbered (filter p rs)
numbered_filter p rs h = (ascending-filter _ p rs h.0, all_filter _ p rs h.1)

pub numbered_changed : (p : Row → Bool) (new : Row → Row) → ((r : Row) → IsTrue (is_int (rowid r)) → rowid (new r) ≡ rowid r) → (rs : List Row) → IsNumbered rs → IsNumbered (changed p new rs)
numbered_changed p new same [] h = h
numbered_changed p new same (r ∷ rs) h =
    let more = numbered_changed p new same rs (h.0.1, h.1.1) in
    let is = still r (p r) h.1.0 in
    ((lows rs h.0.0 h.1.1, more.0), (subst (λ v. IsTrue (is_int v)) (sym is) h.1.0, more.1))
  where
    still : (r : Row) (b : Bool) → IsTrue (is_int (rowid r)) → rowid (cond b (new r) r) ≡ rowid r
    still r true its = same r its
    still r false its = refl

    lows : (xs : List Row) → AllByRecursion (λ y. value_cmp (rowid r) (rowid y) ≡ Less) xs → AllByRecursion (λ y. IsTrue (is_int (rowid y))) xs
        → AllByRecursion (λ y. value_cmp (rowid (cond (p r) (new r) r)) (rowid y) ≡ Less) (changed p new xs)
    lows [] low its = tt
    lows (y ∷ ys) low its = (ap (λ v. value_cmp v (rowid (cond (p y) (new y) y))) (still r (p r) h.1.0) ∙ ap (value_cmp (rowid r)) (still y (p y) its.0) ∙ low.0, lows ys low.1 its.1)

-- Taking out the rows that a query showed.
use Rattle.std.proofs.Common.{◌≡◌, ℕ, ℤ, List, [], ◌∷◌, map, filter, Bool, true, false, not, cond, ◌||◌, ◌&&◌, IsTrue}
use Rattle.std.proofs.Common.{refl, sym, ap, subst, ◌∙◌, IsPermutation, Less, is_eq, true≢false}
use Rattle.std.specs.List.{AllByRecursion, list_any}
use Rattle.std.proofs.lemmas.List.Sorted.{list_any-IsPermutation, IsPermutation-map}
use Rattle.std.proofs.lemmas.Cmp.{tied_itself}
use Rattle.std.specs.Ordering.{ordering_reverse}
use Rattle.sqlite.specs.Order.{Row, value_cmp}
use Rattle.sqlite.specs.declared.types.Value.{Value}
use Rattle.sqlite.specs.declared.types.Value.TheVariants.{Null, Int, Real, Text, Blob}
use Rattle.sqlite.specs.Tree.{Trees}
use Rattle.sqlite.specs.Term.{Term, col}
use Rattle.sqlite.specs.Query.{Output, IsAnswer, output}
use Rattle.sqlite_trees.specs.Tree.{rowid, has_rowid, without_rowid}
use Rattle.sqlite_trees.specs.View.{is_int}
use Rattle.sqlite.specs.Edit.{id_in, without_all}
use Rattle.sqlite_rules.specs.Calls.{ids_of}
use Rattle.sqlite_value.proofs.OrderLemmas.{value_cmp_total}
use Rattle.sqlite_keyed.proofs.ListLemmas.{map-map, filter_same, all_weaker}
use Rattle.gate_schema.specs.Rows.{IsNumbered}
use Rattle.gate_schema.proofs.QueryLemmas.{over_table, passes, kept_is}
use Rattle.gate_schema.proofs.Statements.{no_limit}

-- the rowids that a DELETE is given
pub deleted_ids : (tree : ℕ) (test : List Term) (db : Trees) (params : Row) (rows : List Row) → IsAnswer (over_table tree test (col 1 0 ∷ []) [] no_limit) db params rows
    → IsPermutation (map (λ r. id_in (rowid r)) (filter (passes test params) (db tree))) (ids_of rows)
deleted_ids tree test db params rows a =
    let q = over_table tree test (col 1 0 ∷ []) [] no_limit in
    let id : Output → ℤ = λ o. id_in (rowid o.1) in
    let kept = kept_is tree test (col 1 0 ∷ []) [] no_limit db params rows a in
    let same = IsPermutation-map id a.kept a.ordered a.same in
    let left : map id a.kept ≡ map (λ r. id_in (rowid r)) (filter (passes test params) (db tree)) = ap (map id) kept ∙ map-map id (λ (r : Row). output q (params ∷ r ∷ [])) _ in
    let right : map id a.ordered ≡ ids_of rows = sym (ap ids_of a.shown ∙ map-map (λ r. id_in (rowid r)) (λ (o : Output). o.1) a.ordered) in
    subst (λ xs. IsPermutation xs (ids_of rows)) left (subst (IsPermutation (map id a.kept)) right same)

filter_two : {X : Type 0} (p q : X → Bool) (xs : List X) → filter p (filter q xs) ≡ filter (λ x. q x && p x) xs
filter_two p q [] = refl
filter_two p q (x ∷ xs) =
    let more = filter_two p q xs in
    elim (q x) as (λ b. filter p (cond b (x ∷ filter q xs) (filter q xs)) ≡ cond (b && p x) (x ∷ filter (λ x. q x && p x) xs) (filter (λ x. q x && p x) xs))
    [ true ↦ elim (p x) as (λ b. cond b (x ∷ filter p (filter q xs)) (filter p (filter q xs)) ≡ cond b (x ∷ filter (λ x. q x && p x) xs) (filter (λ x. q x && p x) xs)) [ true ↦ ap (λ l. x ∷ l) more | false ↦ more ] | false ↦ more ]

neither : (a b : Bool) → (not a && not b) ≡ not (a || b)
neither true b = refl
neither false b = refl

kept_all : {X : Type 0} (xs : List X) → xs ≡ filter (λ _. true) xs
kept_all [] = refl
kept_all (x ∷ xs) = ap (λ l. x ∷ l) (kept_all xs)

abbrev is_among : List ℤ → Row → Bool
is_among ids r = list_any (λ id. has_rowid id r) ids

without_is : (ids : List ℤ) (rows : List Row) → without_all rows ids ≡ filter (λ r. not (is_among ids r)) rows
without_is [] rows = kept_all rows
without_is (id ∷ ids) rows =
    without_is ids (without_rowid id rows) ∙ filter_two (λ r. not (is_among ids r)) (λ r. not (has_rowid id r)) rows
    ∙ filter_same _ _ (λ r. neither (has_rowid id r) (is_among ids r)) rows

pub filter_same_on : {X : Type 0} (p q : X → Bool) (xs : List X) → AllByRecursion (λ x. p x ≡ q x) xs → filter p xs ≡ filter q xs
filter_same_on p q [] same = refl
filter_same_on p q (x ∷ xs) same = rw (same.0, filter_same_on p q xs same.1)

pub is_its : (v : Value) → IsTrue (is_int v) → v ≡ Int (id_in v)
is_its Null h = absurd (true≢false (sym h))
is_its (Int n) h = refl
is_its (Real x) h = absurd (true≢false (sym h))
is_its (Text t) h = absurd (true≢false (sym h))
is_its (Blob b) h = absurd (true≢false (sym h))

-- the row with this number is not among rows that are above it, or below it
none_above : (p : Row → Bool) (x : Row) (ys : List Row) → AllByRecursion (λ y. value_cmp (rowid x) (rowid y) ≡ Less) ys → AllByRecursion (λ y. IsTrue (is_int (rowid y))) ys
    → is_among (map (λ r. id_in (rowid r)) (filter p ys)) x ≡ false
none_above p x [] above ints = refl
none_above p x (y ∷ ys) above ints =
    let more = none_above p x ys above.1 ints.1 in
    let here : has_rowid (id_in (rowid y)) x ≡ false = ap is_eq (ap (value_cmp (rowid x)) (sym (is_its (rowid y) ints.0)) ∙ above.0) in
    elim (p y) as (λ b. is_among (map (λ r. id_in (rowid r)) (cond b (y ∷ filter p ys) (filter p ys))) x ≡ false) [ true ↦ rw (here, more) | false ↦ more ]

deleted_rows : (p : Row → Bool) (rows : List Row) → IsNumbered rows → AllByRecursion (λ r. not (is_among (map (λ r. id_in (rowid r)) (filter p rows)) r) ≡ not (p r)) rows
deleted_rows p [] numbered = tt
deleted_rows p (r ∷ rows) numbered =
    let ids = map (λ r. id_in (rowid r)) (filter p rows) in
    let id = id_in (rowid r) in
    let its = is_its (rowid r) numbered.1.0 in
    let more = deleted_rows p rows (numbered.0.1, numbered.1.1) in
    let above = none_above p r rows numbered.0.0 numbered.1.1 in
    let own : has_rowid id r ≡ true = ap is_eq (ap (value_cmp (rowid r)) (sym its) ∙ tied_itself value_cmp_total (rowid r)) in
    let apart : (x : Row) → value_cmp (rowid r) (rowid x) ≡ Less → has_rowid id x ≡ false =
    λ x less. ap is_eq (ap (value_cmp (rowid x)) (sym its) ∙ value_cmp_total.antisymm (rowid x) (rowid r) ∙ ap ordering_reverse less) in
    go (p r) refl own above (all_weaker (λ x. (not (is_among ids x) ≡ not (p x)) × (value_cmp (rowid r) (rowid x) ≡ Less)) _ (λ x h. h.0) rows (both _ _ rows more numbered.0.0))
    (all_weaker _ (λ x. (has_rowid id x || is_among ids x) ≡ is_among ids x) (λ x less. rw (apart x less)) rows numbered.0.0)
  where
    both : (P Q : Row → Type 0) (xs : List Row) → AllByRecursion P xs → AllByRecursion Q xs → AllByRecursion (λ x. P x × Q x) xs
    both P Q [] f g = tt
    both P Q (x ∷ xs) f g = ((f.0, g.0), both P Q xs f.1 g.1)

    go : (b : Bool) → p r ≡ b → has_rowid (id_in (rowid r)) r ≡ true → is_among (map (λ r. id_in (rowid r)) (filter p rows)) r ≡ false
        → AllByRecursion (λ x. not (is_among (map (λ r. id_in (rowid r)) (filter p rows)) x) ≡ not (p x)) rows
        → AllByRecursion (λ x. (has_rowid (id_in (rowid r)) x || is_among (map (λ r. id_in (rowid r)) (filter p rows)) x) ≡ is_among (map (λ r. id_in (rowid r)) (filter p rows)) x) rows
        → AllByRecursion (λ x. not (is_among (map (λ r. id_in (rowid r)) (cond b (r ∷ filter p rows) (filter p rows))) x) ≡ not (p x)) (r ∷ rows)
    go true e own above more same = (rw (e, own), all_weaker (λ x. (not (is_among (map (λ r. id_in (rowid r)) (filter p rows)) x) ≡ not (p x)) × ((has_rowid (id_in (rowid r)) x || is_among (map (λ r. id_in (rowid r)) (filter p rows)) x) ≡ is_among (map (λ r. id_in (rowid r)) (filter p rows)) x)) _ (λ x h. ap not h.1 ∙ h.0) rows (both _ _ rows more same))
    go false e own above more same = (rw (e, above), more)

-- What a DELETE leaves is what does not pass its test.
pub leaves_others : (p : Row → Bool) (rows : List Row) (ids : List ℤ) → IsNumbered rows → IsPermutation (map (λ r. id_in (rowid r)) (filter p rows)) ids → without_all rows ids ≡ filter (λ r. not (p r)) rows
leaves_others p rows ids numbered same =
    without_is ids rows ∙ filter_same _ _ (λ r. ap not (sym (list_any-IsPermutation (λ id. has_rowid id r) _ ids same))) rows
    ∙ filter_same_on _ _ rows (deleted_rows p rows numbered)

-- Taking one rowid out more than once is taking it out.
pub without_one : (id i : ℤ) (ids : List ℤ) (rows : List Row) → AllByRecursion (λ j. j ≡ id) (i ∷ ids) → without_all rows (i ∷ ids) ≡ filter (λ r. not (has_rowid id r)) rows
without_one id i ids rows all = without_is (i ∷ ids) rows ∙ filter_same _ _ (λ r. ap not (among i ids r all)) rows
  where
    again : (a : Bool) → (a || a) ≡ a
    again true = refl
    again false = refl

    alone : (a : Bool) → (a || false) ≡ a
    alone true = refl
    alone false = refl

    among : (i : ℤ) (ids : List ℤ) (r : Row) → AllByRecursion (λ j. j ≡ id) (i ∷ ids) → is_among (i ∷ ids) r ≡ has_rowid id r
    among i [] r all = alone (has_rowid i r) ∙ ap (λ j. has_rowid j r) all.0
    among i (j ∷ ids) r all = ap (λ k. has_rowid k r || is_among (j ∷ ids) r) all.0 ∙ ap (λ b. has_rowid id r || b) (among j ids r all.1) ∙ again (has_rowid id r)

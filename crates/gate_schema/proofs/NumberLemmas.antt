-- A row whose rowid SQLite chooses goes to the end.
use Rattle.std.proofs.Common.{◌≡◌, ℤ, pos, ◌+ℤ◌, ◌<ℤ◌, List, [], ◌∷◌, ◌++◌, IsTrue, refl, sym, ap, ◌∙◌, arith, Less}
use Rattle.std.specs.List.{AllByRecursion, fold}
use Rattle.std.proofs.lemmas.Int.{ints}
use Rattle.sqlite.specs.Order.{Row, value_cmp}
use Rattle.sqlite.specs.declared.types.Value.TheVariants.{Int}
use Rattle.sqlite_trees.specs.Tree.{rowid, put_row}
use Rattle.sqlite_trees.specs.View.{is_int}
use Rattle.sqlite.specs.Edit.{id_in, next_rowid}
use Rattle.sqlite_value.proofs.OrderLemmas.{value_cmp-Int}
use Rattle.sqlite_keyed.proofs.KeyedLemmas.{Less-from_lt, lt_from_Less}
use Rattle.gate_schema.specs.Rows.{IsNumbered}
use Rattle.gate_schema.proofs.DeleteLemmas.{is_its}

-- the rows with one at the end, above each of them
put_at_end : (new : Row) (rows : List Row) → AllByRecursion (λ r. value_cmp (rowid r) (rowid new) ≡ Less) rows → put_row new rows ≡ rows ++ new ∷ []
put_at_end new [] below = refl
put_at_end new (r ∷ rows) below = rw below.0 (ap (λ l. r ∷ l) (put_at_end new rows below.1))

before : (a b : Row) → IsTrue (is_int (rowid a)) → IsTrue (is_int (rowid b)) → value_cmp (rowid a) (rowid b) ≡ Less → id_in (rowid a) <ℤ id_in (rowid b)
before a b p q less = lt_from_Less _ _ (sym (value_cmp-Int _ _) ∙ sym (ap (value_cmp (Int (id_in (rowid a)))) (is_its (rowid b) q)) ∙ sym (ap (λ v. value_cmp v (rowid b)) (is_its (rowid a) p)) ∙ less)

abbrev top_of : ℤ → List Row → ℤ
top_of top rows = fold (λ _ r. id_in (rowid r) +ℤ pos 1) top rows

-- what is below each row, or below the first number where there is none, is below the next
below_top : (n top : ℤ) (rows : List Row) → n <ℤ top → AllByRecursion (λ r. n <ℤ id_in (rowid r)) rows → n <ℤ top_of top rows
below_top n top [] h all = h
below_top n top (r ∷ rows) h all = let first = all.0 in let next : n <ℤ (id_in (rowid r) +ℤ pos 1) = omega (arith, ints) in below_top n (id_in (rowid r) +ℤ pos 1) rows next all.1

ids_above : (r : Row) (rows : List Row) → IsTrue (is_int (rowid r)) → AllByRecursion (λ x. value_cmp (rowid r) (rowid x) ≡ Less) rows → AllByRecursion (λ x. IsTrue (is_int (rowid x))) rows → AllByRecursion (λ x. id_in (rowid r) <ℤ id_in (rowid x)) rows
ids_above r [] its above ints = tt
ids_above r (x ∷ rows) its above ints = (before r x its ints.0 above.0, ids_above r rows its above.1 ints.1)

all_below : (top : ℤ) (rows : List Row) → IsNumbered rows → AllByRecursion (λ r. id_in (rowid r) <ℤ top_of top rows) rows
all_below top [] numbered = tt
all_below top (r ∷ rows) numbered =
    let n = id_in (rowid r) in
    let next : n <ℤ (n +ℤ pos 1) = omega (arith, ints) in
    (below_top n (n +ℤ pos 1) rows next (ids_above r rows numbered.1.0 numbered.0.0 numbered.1.1), all_below (n +ℤ pos 1) rows (numbered.0.1, numbered.1.1))

less_than_next : (top : ℤ) (columns : Row) (rows : List Row) → AllByRecursion (λ r. IsTrue (is_int (rowid r))) rows → AllByRecursion (λ r. id_in (rowid r) <ℤ top) rows → AllByRecursion (λ r. value_cmp (rowid r) (rowid (Int top ∷ columns)) ≡ Less) rows
less_than_next top columns [] ints below = tt
less_than_next top columns (r ∷ rows) ints below = (ap (λ v. value_cmp v (Int top)) (is_its (rowid r) ints.0) ∙ value_cmp-Int _ _ ∙ Less-from_lt _ _ below.0, less_than_next top columns rows ints.1 below.1)

-- An INSERT with no rowid adds its row at the end.
pub put_next : (columns : Row) (rows : List Row) → IsNumbered rows → put_row (Int (next_rowid rows) ∷ columns) rows ≡ rows ++ (Int (next_rowid rows) ∷ columns) ∷ []
put_next columns rows numbered = put_at_end (Int (next_rowid rows) ∷ columns) rows (less_than_next (next_rowid rows) columns rows numbered.1 (all_below (pos 1) rows numbered))

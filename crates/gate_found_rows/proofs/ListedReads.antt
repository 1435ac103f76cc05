-- What a query of a table whose rowids tell nothing finds, as records, in the order of a number.
use Rattle.std.proofs.Common.{◌≡◌, ◌<◌, ℕ, pos, List, [], ◌∷◌, map, drop, filter, Bool, sym, ap, subst, ◌∙◌, Less}
use Rattle.std.proofs.Common.{◌<ℤ◌, arith, IsPermutation}
use Rattle.std.proofs.lemmas.Int.{ints}
use Rattle.sqlite.specs.Collation.TheVariants.{Binary}
use Rattle.sqlite.specs.Order.{Row}
use Rattle.sqlite.specs.Query.{IsAnswer, output, output_cmp, page}
use Rattle.sqlite.specs.Term.{Term, eval, eval_all, lit}
use Rattle.sqlite.specs.Tree.{Trees}
use Rattle.sqlite.specs.declared.types.Value.TheVariants.{Int}
use Rattle.sqlite_keyed.proofs.KeyedLemmas.{Less-from_lt}
use Rattle.sqlite_keyed.proofs.ListLemmas.{ascending-map, ascending_weaker, map-map}
use Rattle.sqlite_trees.specs.Tree.{IsAscending}
use Rattle.sqlite_value.proofs.OrderLemmas.{value_cmp-Int}
use Rattle.sqlite_value.specs.Keys.{ascending}
use Rattle.gate_schema.specs.Rows.{IsListed}
use Rattle.gate_schema.proofs.ListedQueries.{kept_shown}
use Rattle.gate_schema.proofs.QueryLemmas.{kept_is, over_table, passes, shows_in_order}
use Rattle.gate_found_rows.specs.Shown.{number_shown}
use Rattle.gate_found_rows.proofs.GreatestLemmas.{ShowGreatest, number_output, shows_greatest}
use Rattle.gate_found_rows.proofs.KeyedReads.{descending}

module _ {X : Type 0} (columns : X → Row) (tree : ℕ) (test : List Term) (t : Term) (params : Row)
    (p : X → Bool) (same : (v : Row) (x : X) → drop 1 v ≡ columns x → passes test params v ≡ p x)
    (number : X → ℕ) (value : (v : Row) (x : X) → drop 1 v ≡ columns x → eval t (params ∷ v ∷ []) ≡ Int (pos (number x)))
    (db : Trees) (xs : List X) (rows : List Row) (holds : IsListed columns (db tree) xs) where
  -- in the order of a number that rises
  pub listed_rising : (project : List Term) (limit : Term) (shown : X → Row) → ((v : Row) (x : X) → drop 1 v ≡ columns x → eval_all project (params ∷ v ∷ []) ≡ shown x)
      → IsAscending (λ x y. number x < number y) (filter p xs) → IsAnswer (over_table tree test project ((t, ascending Binary) ∷ []) limit) db params rows
      → rows ≡ page (over_table tree test project ((t, ascending Binary) ∷ []) limit) params (map shown (filter p xs))
  listed_rising project limit shown shows rise a =
      let q = over_table tree test project ((t, ascending Binary) ∷ []) limit in
      let outs : map (λ (r : Row). output q (params ∷ r ∷ [])) (filter (passes test params) (db tree)) ≡ map (λ x. (number_shown (number x), shown x)) (filter p xs) =
      kept_shown columns (passes test params) p same (λ r. output q (params ∷ r ∷ [])) (λ x. (number_shown (number x), shown x))
      (λ v x is. rw (value v x is, shows v x is)) (db tree) xs holds.columns_are in
      let up : IsAscending (λ x y. output_cmp q x y ≡ Less) (map (λ x. (number_shown (number x), shown x)) (filter p xs)) =
      ascending-map _ (λ (x : X). (number_shown (number x), shown x)) _
      (ascending_weaker _ (λ x y. output_cmp q (number_shown (number x), shown x) (number_shown (number y), shown y) ≡ Less)
      (λ x y less. let above : pos (number x) <ℤ pos (number y) = omega (arith, ints) in rw (value_cmp-Int, Less-from_lt _ _ above)) _ rise) in
      shows_in_order tree test project ((t, ascending Binary) ∷ []) limit db params rows (subst (λ os. IsAscending (λ x y. output_cmp q x y ≡ Less) os) (sym outs) up) a
      ∙ ap (page q params) (kept_shown columns (passes test params) p same (λ r. eval_all project (params ∷ r ∷ [])) shown shows (db tree) xs holds.columns_are)

  -- the greatest of a number
  pub listed_greatest : IsAnswer (over_table tree test (t ∷ []) ((t, descending Binary) ∷ []) (lit (Int (pos 1)))) db params rows
      → ShowGreatest (map number (filter p xs)) rows
  listed_greatest a =
      let q = over_table tree test (t ∷ []) ((t, descending Binary) ∷ []) (lit (Int (pos 1))) in
      let outs : map (λ (r : Row). output q (params ∷ r ∷ [])) (filter (passes test params) (db tree)) ≡ map (λ x. number_output (number x)) (filter p xs) =
      kept_shown columns (passes test params) p same (λ r. output q (params ∷ r ∷ [])) (λ x. number_output (number x)) (λ v x is. rw (value v x is)) (db tree) xs holds.columns_are in
      let kept : a.kept ≡ map number_output (map number (filter p xs)) =
      kept_is tree test (t ∷ []) ((t, descending Binary) ∷ []) (lit (Int (pos 1))) db params rows a ∙ outs ∙ sym (map-map number_output number (filter p xs)) in
      subst (ShowGreatest (map number (filter p xs))) (sym a.shown) (shows_greatest (map number (filter p xs)) a.ordered (subst (λ k. IsPermutation k a.ordered) kept a.same) a.sorted)

-- What a query of a table whose rowids tell nothing finds, as records.
use Rattle.std.proofs.Common.{◌≡◌, ◌≤◌, ℕ, List, [], ◌∷◌, map, drop, filter, length, Bool, true, false, cond, refl}
use Rattle.std.proofs.Common.{sym, ap, subst, ◌∙◌, Less}
use Rattle.sqlite.specs.Order.{Row}
use Rattle.sqlite.specs.Query.{IsAnswer, output, output_cmp, page}
use Rattle.sqlite.specs.Term.{Term, eval_all}
use Rattle.sqlite.specs.Tree.{Trees}
use Rattle.sqlite_keyed.proofs.ListLemmas.{ascending-filter, ascending-map, ascending_weaker}
use Rattle.sqlite_trees.specs.Tree.{IsAscending}
use Rattle.gate_schema.specs.Rows.{IsListed}
use Rattle.gate_schema.proofs.QueryLemmas.{over_table, passes, shows_few, shows_in_order}
use Rattle.gate_schema.proofs.RowLemmas.{few_found}
use Rattle.gate_schema.proofs.Statements.{rising}

-- what is kept of rows is what is kept of records
pub kept_shown : {X Y : Type 0} (columns : X → Row) (test : Row → Bool) (p : X → Bool) → ((v : Row) (x : X) → drop 1 v ≡ columns x → test v ≡ p x)
    → (f : Row → Y) (g : X → Y) → ((v : Row) (x : X) → drop 1 v ≡ columns x → f v ≡ g x)
    → (rs : List Row) (xs : List X) → map (drop 1) rs ≡ map columns xs → map f (filter test rs) ≡ map g (filter p xs)
kept_shown columns test p same f g shows [] [] h = refl
kept_shown columns test p same f g shows [] (x ∷ xs) h = absurd cc
kept_shown columns test p same f g shows (r ∷ rs) [] h = absurd cc
kept_shown columns test p same f g shows (r ∷ rs) (x ∷ xs) h =
    let first : drop 1 r ≡ columns x = cc in
    let rest : map (drop 1) rs ≡ map columns xs = cc in
    let more = kept_shown columns test p same f g shows rs xs rest in
    let here = shows r x first in
    ap (λ b. map f (cond b (r ∷ filter test rs) (filter test rs))) (same r x first)
    ∙ elim (p x) as (λ b. map f (cond b (r ∷ filter test rs) (filter test rs)) ≡ map g (cond b (x ∷ filter p xs) (filter p xs))) [ true ↦ ap (λ y. y ∷ map f (filter test rs)) here ∙ ap (λ l. g x ∷ l) more | false ↦ more ]

module _ {X : Type 0} (columns : X → Row) (shown : X → Row) (tree : ℕ) (test project : List Term) (limit : Term) (params : Row)
    (p : X → Bool) (same : (v : Row) (x : X) → drop 1 v ≡ columns x → passes test params v ≡ p x)
    (shows : (v : Row) (x : X) → drop 1 v ≡ columns x → eval_all project (params ∷ v ∷ []) ≡ shown x)
    (db : Trees) (xs : List X) (rows : List Row) (holds : IsListed columns (db tree) xs) where
  all_shown : map (λ (r : Row). eval_all project (params ∷ r ∷ [])) (filter (passes test params) (db tree)) ≡ map shown (filter p xs)
  all_shown = kept_shown columns (passes test params) p same (λ r. eval_all project (params ∷ r ∷ [])) shown shows (db tree) xs holds.columns_are

  -- in no order, where one at most passes
  pub listed_few : length (filter p xs) ≤ 1 → IsAnswer (over_table tree test project [] limit) db params rows
      → rows ≡ page (over_table tree test project [] limit) params (map shown (filter p xs))
  listed_few few a =
      let short : length (filter (passes test params) (db tree)) ≤ 1 = subst (λ n. n ≤ 1) (sym (few_found columns (passes test params) p same (db tree) xs holds.columns_are)) few in
      shows_few tree test project [] limit db params rows short a ∙ ap (page (over_table tree test project [] limit) params) all_shown

  -- in the order in which they were written
  pub listed_in_turn : IsAnswer (over_table tree test project rising limit) db params rows
      → rows ≡ page (over_table tree test project rising limit) params (map shown (filter p xs))
  listed_in_turn a =
      let q = over_table tree test project rising limit in
      let up : IsAscending (λ x y. output_cmp q x y ≡ Less) (map (λ (r : Row). output q (params ∷ r ∷ [])) (filter (passes test params) (db tree))) =
      ascending-map _ (λ (r : Row). output q (params ∷ r ∷ [])) _
      (ascending_weaker _ (λ r s. output_cmp q (output q (params ∷ r ∷ [])) (output q (params ∷ s ∷ [])) ≡ Less) (λ r s less. rw less) _ (ascending-filter _ (passes test params) (db tree) holds.numbered.0)) in
      shows_in_order tree test project rising limit db params rows up a ∙ ap (page q params) all_shown

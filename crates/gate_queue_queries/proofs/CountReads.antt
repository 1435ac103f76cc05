-- What a query that counts rows shows.
use Rattle.std.proofs.Common.{◌≡◌, ◌≤◌, ℕ, min, arith, List, [], ◌∷◌, map, filter, length, pos, negsuc, false, Some}
use Rattle.std.proofs.Common.{Option, sym, ap, subst, ◌∙◌, IsPermutation}
use Rattle.std.specs.List.{AllZip, list_all}
use Rattle.std.proofs.lemmas.List.{length-map}
use Rattle.std.proofs.lemmas.List.Sorted.{length_permutation}
use Rattle.sqlite.specs.Order.{Row}
use Rattle.sqlite.specs.Tree.{Trees}
use Rattle.sqlite.specs.Term.{Term, Env, lit, col, eval, holds}
use Rattle.sqlite.specs.declared.types.Value.TheVariants.{Null, Int}
use Rattle.sqlite.specs.declared.types.Value.{Value}
use Rattle.sqlite.specs.Collation.TheVariants.{Binary}
use Rattle.sqlite.specs.Query.{Query, Output, inner, end, IsAnswer, output, page}
use Rattle.sqlite_sql.specs.Group.{Aggregate, Grouping, IsSummary, value_over}
use Rattle.sqlite_sql.specs.Aggregate.{count}
use Rattle.sqlite_sql.specs.declared.aggregate.AggregateOp.TheVariants.{CountRows}
use Rattle.sqlite.proofs.Callers.{one_permutation}
use Rattle.gate_types.specs.Limits.{most_items}
use Rattle.gate_found_rows.specs.Shown.{number_shown}
use Rattle.gate_schema.proofs.QueryLemmas.{passes, matches-over_table}

-- a count of all rows
abbrev pub all_rows : Aggregate
all_rows = record { op = CountRows; distinct = false; collation = Binary; argument = lit Null }

-- all rows as one group
abbrev pub one_group : Grouping
one_group = record { keys = []; collations = []; aggregates = all_rows ∷ []; having = [] }

-- the query that counts the rows that pass a test
abbrev pub counting : ℕ → List Term → Query
counting tree test = record {
  from = inner tree end;
  filter = test;
  group = Some one_group;
  project = col 1 0 ∷ [];
  distinct = false;
  collations = [];
  order = [];
  limit = lit (Int (negsuc 0));
  offset = lit (Int (pos 0));
}

-- the number of rows, as far as an integer goes
abbrev pub counted : ℕ → Row
counted n = count n ∷ []

-- a group's one value is its count
pub one_value : (group : List Env) (values : Row) → AllZip (λ a v. value_over group a ≡ Some v) (all_rows ∷ []) values → values ≡ counted (length group)
one_value group [] zip = absurd zip
one_value group (v ∷ []) zip =
    let same : count (length (map (eval (lit Null)) group)) ≡ v = some_is zip.0 in
    let long : length (map (eval (lit Null)) group) ≡ length group = simp length-map in
    ap (λ x. x ∷ []) (sym same) ∙ ap counted long
  where
    some_is : {x y : Value} → ◌≡◌ {A = Option Value} (Some x) (Some y) → x ≡ y
    some_is e = cc
one_value group (v ∷ w ∷ vs) zip = absurd zip.1

-- one group has one row
pub one_summary : (group : List Env) (rows : List Row) → AllZip (IsSummary one_group) (group ∷ []) rows → rows ≡ counted (length group) ∷ []
one_summary group [] zip = absurd zip
one_summary group (r ∷ []) zip = ap (λ x. x ∷ []) (zip.0.2 ∙ one_value group zip.0.0 zip.0.1)
one_summary group (r ∷ s ∷ rs) zip = absurd zip.1

-- it shows how many rows pass
pub counts : (tree : ℕ) (test : List Term) (db : Trees) (params : Row) (rows : List Row) → IsAnswer (counting tree test) db params rows
    → rows ≡ counted (length (filter (passes test params) (db tree))) ∷ []
counts tree test db params rows a =
    let q = counting tree test in
    let s = a.grouped in
    let group = s.grouping.0 in
    let many : length group ≡ length (filter (passes test params) (db tree)) =
    length_permutation _ group s.grouping.1 ∙ ap length (matches-over_table db test params (db tree)) ∙ simp length-map in
    let summary : s.rows ≡ counted (length group) ∷ [] = one_summary group s.rows (subst (λ gs. AllZip (IsSummary one_group) gs s.rows) s.grouping.2 s.summaries) in
    let staged : a.staged ≡ (params ∷ counted (length group) ∷ []) ∷ [] = s.having ∙ ap (λ rs. filter (λ env. list_all (holds env) []) (map (λ (r : Row). params ∷ r ∷ []) rs)) summary in
    let o : Output = ([], counted (length group)) in
    let kept : a.kept ≡ o ∷ [] = a.distinct ∙ ap (map (output q)) staged in
    let ordered = one_permutation o a.ordered (subst (λ k. IsPermutation k a.ordered) kept a.same) in
    a.shown ∙ ap (λ os. page q params (map (λ (p : Output). p.1) os)) ordered ∙ ap (λ n. counted n ∷ []) many

-- which is their number, where they are few
pub counted_is : (n : ℕ) → n ≤ most_items → counted n ≡ number_shown n
counted_is n few = let least : min n 9223372036854775807 ≡ n = omega arith in ap number_shown least

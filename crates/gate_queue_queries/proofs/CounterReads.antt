-- What the read of the counters asks and finds.
use Rattle.std.proofs.Common.{◌≡◌, ℕ, pos, List, [], ◌∷◌, map, filter, drop, slice_index_or, codes, refl, ap, subst}
use Rattle.std.proofs.Common.{◌∙◌, IsPermutation, Less}
use Rattle.sqlite.specs.Collation.TheVariants.{Binary}
use Rattle.sqlite.specs.Listing.{understood}
use Rattle.sqlite.specs.Order.{Row, value_cmp}
use Rattle.sqlite.specs.Program.{overlay}
use Rattle.sqlite.specs.Query.{Output, Query, output, output_cmp, page}
use Rattle.sqlite.specs.State.{State}
use Rattle.sqlite.specs.Term.{Term, col}
use Rattle.sqlite.specs.declared.types.Value.{Value}
use Rattle.sqlite.specs.declared.types.Value.TheVariants.{Int, Text as Words}
use Rattle.sqlite_keyed.proofs.SortLemmas.{sorted_unique}
use Rattle.sqlite_sql.proofs.QueryLemmas.{output_cmp_total}
use Rattle.sqlite_tied.specs.Compute.{everything}
use Rattle.sqlite_trees.specs.Tree.{IsAscending}
use Rattle.sqlite_value.proofs.OrderLemmas.{value_cmp-Text}
use Rattle.sqlite_value.specs.Keys.{ascending}
use Rattle.gate_types.specs.Counters.{Drawn}
use Rattle.gate_schema.specs.Rows.{Stored, counter_columns}
use Rattle.gate_schema.proofs.QueryLemmas.{kept_is, over_table, passes, of_columns, shown_columns}
use Rattle.gate_schema.proofs.Statements.{Asks, no_limit}
use Rattle.gate_found_rows.specs.Finds.{Finds}
use Rattle.gate_found_rows.specs.Reads.{IsStoredIn}
use Rattle.gate_found_rows.proofs.ReadLemmas.{answers}

abbrev pub counters_sql : List ℕ
counters_sql = codes "SELECT name, drawn FROM counter ORDER BY name"

abbrev counters_terms : List Term
counters_terms = col 1 1 ∷ col 1 2 ∷ []

abbrev counters_query : Query
counters_query = over_table 2 [] counters_terms ((col 1 1, ascending Binary) ∷ []) no_limit

abbrev counters_names : List (List ℕ)
counters_names = codes "name" ∷ codes "drawn" ∷ []

pub counters_is : Asks counters_sql counters_query counters_names
unfolding understood everything
counters_is = ((refl, (refl, refl)), refl)

-- ---- the rows, by their columns

-- what the query makes of each row
output_of : (r : Row) → output counters_query ([] ∷ r ∷ []) ≡ of_columns (drop 1 r)
output_of r = rw ((shown_columns r).0, (shown_columns r).1)

-- and of all
outputs_of : (rows : List Row) → map (λ (r : Row). output counters_query ([] ∷ r ∷ [])) (filter (passes [] []) rows) ≡ map of_columns (map (drop 1) rows)
outputs_of [] = refl
outputs_of (r ∷ rows) = rw (output_of r, outputs_of rows)

-- ---- their order, by name

-- a row with a lower name comes first
name_less : (a b : List ℕ) (x y : Value) → value_cmp (Words a) (Words b) ≡ Less → output_cmp counters_query (of_columns (Words a ∷ x ∷ [])) (of_columns (Words b ∷ y ∷ [])) ≡ Less
name_less a b x y less = rw less

-- the three names rise
counters_rise : (d : Drawn) → IsAscending (λ a b. output_cmp counters_query a b ≡ Less) (map of_columns (counter_columns d))
counters_rise d = (
  (
    name_less (codes "approval") (codes "build") (Int (pos d.approval)) (Int (pos d.build)) (value_cmp-Text _ _),
    (name_less (codes "approval") (codes "order") (Int (pos d.approval)) (Int (pos d.order)) (value_cmp-Text _ _), tt),
  ),
  ((name_less (codes "build") (codes "order") (Int (pos d.build)) (Int (pos d.order)) (value_cmp-Text _ _), tt), (tt, tt)),
)

-- the rows of the counters, by name
pub counters_found : (s : State) (b : Stored) (rows : List Row) → IsStoredIn s b → Finds counters_sql [] s.now rows → rows ≡ counter_columns b.counters
counters_found s b rows shown finds =
    let a = answers s counters_sql counters_query counters_names [] rows counters_is shown.schema_is finds in
    let db = overlay s.now.trees [] in
    let kept : a.kept ≡ map of_columns (counter_columns b.counters) =
    kept_is 2 [] counters_terms ((col 1 1, ascending Binary) ∷ []) no_limit db [] rows a ∙ outputs_of (db 2) ∙ ap (map of_columns) shown.stands.counter.columns_are in
    let ordered : a.ordered ≡ map of_columns (counter_columns b.counters) =
    sorted_unique (output_cmp counters_query) (output_cmp_total counters_query) _ _ (counters_rise b.counters) (subst (λ k. IsPermutation k a.ordered) kept a.same) a.sorted in
    a.shown ∙ ap (λ os. page counters_query [] (map (λ (o : Output). o.1) os)) ordered

-- ---- one row of them

-- a row of these is the one at its place
pub counter_row : (d : Drawn) (rows : List Row) (row : Row) (k : ℕ) → row ≡ slice_index_or rows k row → rows ≡ counter_columns d → row ≡ slice_index_or (counter_columns d) k row
counter_row d rows row k at are = at ∙ ap (λ rs. slice_index_or rs k row) are

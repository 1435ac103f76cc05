-- What reading `meta` shows.
use Rattle.std.proofs.Common.{◌≡◌, ℕ, List, [], ◌∷◌, map, filter, drop, IsTrue, refl, sym, ap, subst, ◌∙◌, codes}
use Rattle.std.proofs.Common.{IsPermutation, Less, false, true}
use Rattle.std.proofs.lemmas.List.Sorted.{IsPermutation-map, IsPermutation-refl, IsPermutation-sym, IsPermutation-trans}
use Rattle.sqlite.specs.Clock.{timed}
use Rattle.sqlite.specs.Collation.TheVariants.{Binary}
use Rattle.sqlite.specs.Effect.{Database}
use Rattle.sqlite.specs.Listing.{IsSourceOf, understood, reads_listing}
use Rattle.sqlite.specs.Order.{Row, value_cmp}
use Rattle.sqlite.specs.Program.{overlay}
use Rattle.sqlite.specs.Query.{Query, Output, IsAnswer, output, output_cmp, page}
use Rattle.sqlite.specs.State.{State, Shown, ShowsRows, FailsToQuery}
use Rattle.sqlite.specs.Table.{Table}
use Rattle.sqlite.specs.Term.{Term, col}
use Rattle.sqlite.specs.declared.error.Error.{Error}
use Rattle.sqlite.specs.declared.types.Value.{Value}
use Rattle.sqlite.specs.declared.types.Value.TheVariants.{Null, Text as Words}
use Rattle.sqlite.proofs.Callers.{IsPlain, command_of, reads_as}
use Rattle.sqlite_keyed.proofs.SortLemmas.{sorted_unique}
use Rattle.sqlite_schema.specs.declared.schema.Index.{Index}
use Rattle.sqlite_schema.specs.declared.schema.View.{View}
use Rattle.sqlite_sql.proofs.QueryLemmas.{output_cmp_total}
use Rattle.sqlite_tied.specs.Compute.{everything}
use Rattle.sqlite_trees.specs.Tree.{IsAscending}
use Rattle.sqlite_typing.specs.Types.{accepts_program}
use Rattle.sqlite_value.proofs.OrderLemmas.{value_cmp-Text}
use Rattle.sqlite_value.specs.Keys.{ascending}
use Rattle.sqlite_value.specs.Order.{column}
use Rattle.sqlite_value.specs.declared.keys.Key.{Key}
use Rattle.gate_found_rows.specs.Finds.{Finds, IsPlainQuery, IsSilent, OnlyReads}
use Rattle.gate_found_rows.proofs.SilentLemmas.{plain_only_reads}
use Rattle.gate_schema.proofs.QueryLemmas.{over_table, passes, kept_is, of_columns, shown_columns}
use Rattle.gate_schema.proofs.Statements.{no_limit}
use Rattle.gate_file_meta.specs.Opens.{IsMeta, with_meta}
use Rattle.gate_file_meta.specs.Reading.{HasNoMeta, HoldsMeta, ShowsMeta, Yields, says_nothing, meta_rows, meta_sql}
use Rattle.gate_file_meta.proofs.FailLemmas.{Fits, never_over, query_unavailable, selects}

-- ---- what the text means

-- the columns that it shows
abbrev meta_terms : List Term
meta_terms = col 1 1 ∷ col 1 2 ∷ []

-- their order
abbrev by_key : List (Term × Key)
by_key = (col 1 1, ascending Binary) ∷ []

-- the query, of all rows of the first table
abbrev meta_query : Query
meta_query = over_table 0 [] meta_terms by_key no_limit

-- the names of the columns
abbrev meta_names : List (List ℕ)
meta_names = codes "k" ∷ codes "v" ∷ []

-- whatever tables and indexes come behind `meta`
pub meta_is : (tables : List Table) (indexes : List Index) (views : List View) → (command_of (understood (with_meta tables indexes views) meta_sql) ≡ selects meta_query meta_names) × IsPlain (understood (with_meta tables indexes views) meta_sql) × (reads_listing (with_meta tables indexes views) meta_sql ≡ false)
unfolding understood everything
meta_is tables indexes views = (refl, (refl, refl), refl)

-- it only reads, whatever the tables are
pub meta_reads : OnlyReads meta_sql
meta_reads = plain_only_reads (with_meta [] [] []) meta_sql (meta_is [] [] []).1

-- the same, as what a query finds asks it
meta_plain : (tables : List Table) (indexes : List Index) (views : List View) → IsPlainQuery (understood (with_meta tables indexes views) meta_sql) meta_query meta_names
unfolding understood everything
meta_plain tables indexes views = (refl, refl, refl)

-- it is one statement with no parameter, and types well
meta_fits : (tables : List Table) (indexes : List Index) (views : List View) → Fits meta_sql 0 (understood (with_meta tables indexes views) meta_sql) × (accepts_program (with_meta tables indexes views) [] meta_query [] ≡ true)
unfolding understood everything
meta_fits tables indexes views = ((refl, refl), refl)

-- It fails for memory, the disk or its size alone.
pub meta_unavailable : (old new : State) (tables : List Table) (indexes : List Index) (views : List View) (e : Error) → old.now.schema ≡ with_meta tables indexes views → FailsToQuery meta_sql [] old new e → IsTrue (says_nothing e)
meta_unavailable old new tables indexes views e has h =
    let is = meta_is tables indexes views in
    let fits = meta_fits tables indexes views in
    query_unavailable meta_sql [] old new (with_meta tables indexes views) has meta_query meta_names is.0 is.1 is.2 fits.0 fits.1 (λ db. never_over 0 [] meta_terms by_key no_limit db []) e h

-- ---- what it shows of the three rows

-- what the query makes of a row
output_of : (r : Row) → output meta_query ([] ∷ r ∷ []) ≡ of_columns (drop 1 r)
output_of r = rw ((shown_columns r).0, (shown_columns r).1)

-- and of all rows
outputs_of : (rows : List Row) → map (λ (r : Row). output meta_query ([] ∷ r ∷ [])) (filter (passes [] []) rows) ≡ map of_columns (map (drop 1) rows)
outputs_of [] = refl
outputs_of (r ∷ rows) = rw (output_of r, outputs_of rows)

-- rows are in the order of their keys
key_less : (a b : List ℕ) (x y : Value) → value_cmp (Words a) (Words b) ≡ Less → output_cmp meta_query (of_columns (Words a ∷ x ∷ [])) (of_columns (Words b ∷ y ∷ [])) ≡ Less
key_less a b x y less = rw less

-- the three keys rise
keys_rise : (value_cmp (Words (codes "format")) (Words (codes "schema")) ≡ Less) × (value_cmp (Words (codes "format")) (Words (codes "settings")) ≡ Less) × (value_cmp (Words (codes "schema")) (Words (codes "settings")) ≡ Less)
keys_rise = (value_cmp-Text _ _, value_cmp-Text _ _, value_cmp-Text _ _)

-- and so do the three rows
meta_rises : (version settings : List ℕ) → IsAscending (λ a b. output_cmp meta_query a b ≡ Less) (map of_columns (meta_rows version settings))
meta_rises version settings =
    ((key_less _ _ gate (Words version) keys_rise.0, (key_less _ _ gate (Words settings) keys_rise.1, tt)), ((key_less _ _ (Words version) (Words settings) keys_rise.2, tt), (tt, tt)))
  where
    gate : Value
    gate = Words (codes "gate")

-- The rows of `meta` are shown by rising key.
pub meta_shows : (old new : State) (tables : List Table) (indexes : List Index) (views : List View) (version settings : List ℕ) (rows : List Row) → old.now.schema ≡ with_meta tables indexes views → IsMeta old.now.trees version settings
    → Shown meta_sql [] old new rows → rows ≡ meta_rows version settings
meta_shows old new tables indexes views version settings rows has meta shown =
    let is = meta_is tables indexes views in
    let in_order : IsPermutation (map (drop 1) (old.now.trees 0)) (meta_rows version settings) = subst (λ rs. IsPermutation (map (drop 1) (old.now.trees 0)) rs) meta.columns_are (IsPermutation-refl _) in
    let read = reads_as meta_sql [] old new (with_meta tables indexes views) has (selects meta_query meta_names) is.0 is.1 is.2 rows shown in
    let db = overlay old.now.trees [] in
    let a : IsAnswer meta_query db [] rows = read.answer Null in
    let kept : a.kept ≡ map of_columns (map (drop 1) (db 0)) = kept_is 0 [] meta_terms by_key no_limit db [] rows a ∙ outputs_of (db 0) in
    let same : IsPermutation (map of_columns (map (drop 1) (db 0))) a.ordered = subst (λ k. IsPermutation k a.ordered) kept a.same in
    let holds : IsPermutation (map of_columns (meta_rows version settings)) (map of_columns (map (drop 1) (db 0))) = IsPermutation-sym _ _ (IsPermutation-map of_columns _ _ in_order) in
    let ordered : a.ordered ≡ map of_columns (meta_rows version settings) =
    sorted_unique (output_cmp meta_query) (output_cmp_total meta_query) _ _ (meta_rises version settings) (IsPermutation-trans _ _ _ holds same) a.sorted in
    a.shown ∙ ap (λ os. page meta_query [] (map (λ (o : Output). o.1) os)) ordered

-- ---- what rows that it shows tell

-- Rows that are shown are the answer, whatever the tables are.
pub shown_yields : (old new : State) (rows : List Row) → Shown meta_sql [] old new rows → Yields meta_sql old.now rows
unfolding Shown
shown_yields old new rows h =
    let none = subst IsSilent h.1.is (meta_reads old.now.schema) in
    let read = subst (ShowsRows old new meta_sql h.0 (timed [] h.0.formats h.1.now) rows) none h.2 in
    record { text = h.0; is_text = h.1.is; now = h.1.now; source = read.0; is_source = read.1; answers = read.2 }

-- And where the text is a plain query of the tables, the rows answer that.
yields_finds : (db : Database) (rows : List Row) → Yields meta_sql db rows → Finds meta_sql [] db rows
yields_finds db rows it q names plain unlisted =
    let is = subst (λ r. IsPlainQuery r q names) it.is_text plain in
    let here : it.source ≡ db = subst (λ b. IsSourceOf b db it.source) unlisted it.is_source in
    (rw (is.0, is.2, here) at it.answers).answer Null

-- Nothing is shown where there is no `meta`.
pub none_shown : (old new : State) (rows : List Row) → HasNoMeta old.now.schema → Shown meta_sql [] old new rows → ⊥
unfolding Shown
none_shown old new rows none shown = let e = sym none.1 ∙ shown.1.is in absurd cc

-- all rows are on the page
on_the_page : (rows : List Row) → page meta_query [] rows ≡ rows
on_the_page rows = refl

-- The rows that are shown are those of the table, in some order.
pub shown_held : (tables : List Table) (indexes : List Index) (views : List View) (db : Database) (version settings : List ℕ) → db.schema ≡ with_meta tables indexes views → ShowsMeta db version settings → HoldsMeta db.trees version settings
shown_held tables indexes views db version settings has shows =
    let plain = subst (λ s. IsPlainQuery (understood s meta_sql) meta_query meta_names) (sym has) (meta_plain tables indexes views) in
    let unlisted = ap (λ s. reads_listing s meta_sql) has ∙ (meta_is tables indexes views).2 in
    let trees = overlay db.trees [] in
    let rows = meta_rows version settings in
    let a : IsAnswer meta_query trees [] rows = yields_finds db rows shows meta_query meta_names plain unlisted in
    let kept : a.kept ≡ map of_columns (map (drop 1) (trees 0)) = kept_is 0 [] meta_terms by_key no_limit trees [] rows a ∙ outputs_of (trees 0) in
    let same : IsPermutation (map of_columns (map (drop 1) (trees 0))) a.ordered = subst (λ k. IsPermutation k a.ordered) kept a.same in
    let all : map (λ (o : Output). o.1) a.ordered ≡ rows = sym (a.shown ∙ on_the_page _) in
    let columns : map (λ (o : Output). o.1) (map of_columns (map (drop 1) (trees 0))) ≡ map (λ (r : Row). column r 1 ∷ column r 2 ∷ []) (db.trees 0) = columns_shown (trees 0) in
    subst (λ rs. IsPermutation rs rows) columns (subst (λ rs. IsPermutation (map (λ (o : Output). o.1) (map of_columns (map (drop 1) (trees 0)))) rs) all (IsPermutation-map (λ (o : Output). o.1) _ _ same))
  where
    columns_shown : (rs : List Row) → map (λ (o : Output). o.1) (map of_columns (map (drop 1) rs)) ≡ map (λ (r : Row). column r 1 ∷ column r 2 ∷ []) rs
    columns_shown [] = refl
    columns_shown (r ∷ rs) = rw ((shown_columns r).0, (shown_columns r).1, columns_shown rs)

-- What the reads of accepted deliveries find.
use Rattle.std.proofs.Common.{◌≡◌, ◌<ℤ◌, ℕ, ℤ, Bool, true, false, cond, List, [], ◌∷◌, ◌++◌, Option, None, Some, Less}
use Rattle.std.proofs.Common.{Ok, Err, Result, option_map, ◌+◌, drop, filter, length, map, take, codes, is_gt}
use Rattle.std.proofs.Common.{int_cmp, refl, sym, ap, subst, ◌∙◌, arith, IsTrue}
use Rattle.std.specs.List.{AllByRecursion}
use Rattle.std.proofs.lemmas.Int.{ints}
use Rattle.std.proofs.lemmas.List.{length-map, take-map}
use Rattle.sqlite.specs.Collation.TheVariants.{Binary}
use Rattle.sqlite.specs.Edit.{id_in}
use Rattle.sqlite.specs.Listing.{reads_listing, understood}
use Rattle.sqlite.specs.Ops.{binary, is_true}
use Rattle.sqlite.specs.Order.{Row, value_cmp}
use Rattle.sqlite.specs.Program.{overlay}
use Rattle.sqlite.specs.Query.{Query, output, output_cmp}
use Rattle.sqlite.specs.Schema.{Schema}
use Rattle.sqlite.specs.State.{State}
use Rattle.sqlite.specs.Term.{Term, col, eval_all, op2}
use Rattle.sqlite.specs.declared.types.Value.TheVariants.{Int, Blob as Octets}
use Rattle.sqlite_keyed.proofs.KeyedLemmas.{lt_from_Less}
use Rattle.sqlite_keyed.proofs.ListLemmas.{all-filter, ascending-filter, ascending-map, ascending_weaker}
use Rattle.sqlite_sql.specs.declared.ops.BinaryOp.TheVariants.{Compare}
use Rattle.sqlite_sql.specs.declared.ops.CompareOp.TheVariants.{Gt}
use Rattle.sqlite_tied.proofs.RuleLemmas.{and_true}
use Rattle.sqlite_tied.specs.Compute.{everything}
use Rattle.sqlite_trees.specs.Tree.{IsAscending, IsTable, rowid}
use Rattle.sqlite_trees.specs.View.{is_int}
use Rattle.sqlite_value.proofs.OrderLemmas.{value_cmp-Int}
use Rattle.sqlite_value.specs.Order.{column}
use Rattle.gate_types.specs.Names.{same_name}
use Rattle.gate_types.specs.declared.records.Id.{Id}
use Rattle.gate_types.specs.declared.records.Kept.{Kept}
use Rattle.gate_types.specs.Tap.{Took}
use Rattle.gate_types.specs.declared.tap.Tap.{Tap}
use Rattle.gate_archive.specs.Feed.{behind, behind_id, feed_lines}
use Rattle.gate_archive.specs.Writes.{TookSome, WritesFeed}
use Rattle.gate_archive.specs.declared.fault.FeedFault.{FeedFault}
use Rattle.gate_archive.specs.declared.fault.FeedFault.TheVariants as fault
use Rattle.gate_schema.specs.Rows.{IsNumbered, Stored, kept_columns}
use Rattle.gate_schema.specs.Schema.{gate_schema}
use Rattle.gate_schema.proofs.DeleteLemmas.{is_its, filter_same_on}
use Rattle.gate_schema.proofs.QueryLemmas.{over_table, passes, shows_in_order}
use Rattle.gate_schema.proofs.Statements.{Asks, key_is, no_limit, rising}
use Rattle.gate_schema.proofs.ValueLemmas.{equal_blobs}
use Rattle.gate_found_rows.specs.Finds.{Finds, IsPlainQuery}
use Rattle.gate_found_rows.specs.Reads.{IsStoredIn}
use Rattle.gate_found_rows.proofs.KeyedReads.{truth_of}
use Rattle.gate_schema.proofs.RowLemmas.{told_behind}
use Rattle.gate_found_rows.proofs.ReadLemmas.{answers}
use Rattle.gate_archive_queries.specs.Deliveries.{HoldAbove, IsFirstOf, IsPlaceOf, WritesDeliveries, accepted}
use Rattle.gate_archive_queries.specs.Deliveries.{accepted_shown, is_above, accepted_line}
use Rattle.gate_queue_queries.proofs.StreamLemmas.{query_of}
use Rattle.gate_queue_queries.specs.Streamed.{StreamsRows, body, lines_of_records}
use Rattle.gate_archive_queries.specs.declared.delivery_rows.FeedPlace.{FeedPlace}

-- ---- the texts

abbrev pub place_sql : List ℕ
place_sql = codes "SELECT rowid FROM delivery WHERE id = ?1 ORDER BY rowid"

abbrev place_query : Query
place_query = over_table 21 (key_is 1 ∷ []) (col 1 0 ∷ []) rising no_limit

pub place_asks : Asks place_sql place_query (codes "rowid" ∷ [])
unfolding understood everything
place_asks = ((refl, (refl, refl)), refl)

-- the query of all deliveries
abbrev pub all_sql : List ℕ
all_sql = codes "SELECT id, said FROM delivery ORDER BY rowid"

abbrev told_terms : List Term
told_terms = col 1 1 ∷ col 1 2 ∷ []

abbrev told_names : List (List ℕ)
told_names = codes "id" ∷ codes "said" ∷ []

abbrev all_query : Query
all_query = over_table 21 [] told_terms rising no_limit

pub all_asks : Asks all_sql all_query told_names
unfolding understood everything
all_asks = ((refl, (refl, refl)), refl)

-- the query of those behind a rowid
abbrev pub behind_sql : List ℕ
behind_sql = codes "SELECT id, said FROM delivery WHERE rowid > ?1 ORDER BY rowid"

abbrev behind_test : List Term
behind_test = op2 (Compare Gt Binary) (col 1 0) (col 0 0) ∷ []

abbrev behind_query : Query
behind_query = over_table 21 behind_test told_terms rising no_limit

pub behind_asks : Asks behind_sql behind_query told_names
unfolding understood everything
behind_asks = ((refl, (refl, refl)), refl)

-- ---- rows above a rowid

-- how SQL tests that an integer is above another
above_int : (m n : ℤ) → is_true (binary (Compare Gt Binary) (Int m) (Int n)) ≡ is_gt (value_cmp (Int m) (Int n))
unfolding binary
above_int m n = truth_of _

-- so it tests rowids
above_row : (place : ℤ) (r : Row) → IsTrue (is_int (rowid r)) → passes behind_test (Int place ∷ []) r ≡ is_above place r
above_row place r int =
    let is : rowid r ≡ Int (id_in (rowid r)) = is_its (rowid r) int in
    and_true _ ∙ ap (λ v. is_true (binary (Compare Gt Binary) v (Int place))) is ∙ above_int (id_in (rowid r)) place
    ∙ ap (λ v. is_gt (value_cmp v (Int place))) (sym is)

-- and those of all rows of a table
above_rows : (place : ℤ) (rows : List Row) → AllByRecursion (λ r. IsTrue (is_int (rowid r))) rows → AllByRecursion (λ r. passes behind_test (Int place ∷ []) r ≡ is_above place r) rows
above_rows place [] ints = tt
above_rows place (r ∷ rs) ints = (above_row place r ints.0, above_rows place rs ints.1)

-- a number above another, the other way round
turned : (m n : ℤ) → int_cmp n m ≡ Less → is_gt (int_cmp m n) ≡ true
turned m n less =
    let low : n <ℤ m = lt_from_Less n m less in
    grind (arith, ints)

-- a row above one is among those above it
above_in : (place : ℤ) (r s : Row) → rowid r ≡ Int place → IsTrue (is_int (rowid s)) → value_cmp (rowid r) (rowid s) ≡ Less → is_above place s ≡ true
above_in place r s at int less =
    let is : rowid s ≡ Int (id_in (rowid s)) = is_its (rowid s) int in
    let low : int_cmp place (id_in (rowid s)) ≡ Less = sym (value_cmp-Int place (id_in (rowid s))) ∙ subst (λ v. value_cmp (Int place) v ≡ Less) is (subst (λ v. value_cmp v (rowid s) ≡ Less) at less) in
    ap (λ v. is_gt (value_cmp v (Int place))) is ∙ ap is_gt (value_cmp-Int (id_in (rowid s)) place) ∙ turned (id_in (rowid s)) place low

-- so all of a table behind a row are above it
all_above : (place : ℤ) (r : Row) (rows : List Row) → rowid r ≡ Int place → AllByRecursion (λ s. value_cmp (rowid r) (rowid s) ≡ Less) rows → AllByRecursion (λ s. IsTrue (is_int (rowid s))) rows
    → filter (is_above place) rows ≡ rows
all_above place r [] at up int = refl
all_above place r (s ∷ ss) at up int =
    ap (λ t. cond t (s ∷ filter (is_above place) ss) (filter (is_above place) ss)) (above_in place r s at int.0 up.0)
    ∙ ap (λ l. s ∷ l) (all_above place r ss at up.1 int.1)

-- no number is above itself
not_above_itself : (n : ℤ) → is_gt (int_cmp n n) ≡ false
not_above_itself n = grind (arith, ints)

-- nor is a row
not_itself : (place : ℤ) (r : Row) → rowid r ≡ Int place → is_above place r ≡ false
not_itself place r at = ap (λ v. is_gt (value_cmp v (Int place))) at ∙ ap is_gt (value_cmp-Int place place) ∙ not_above_itself place

-- ---- the place of a delivery

-- a row's rowid
abbrev id_shown : Row → Row
id_shown r = rowid r ∷ []

-- what is below all of some rows is below the first of them
first_below : (r : Row) (rows : List Row) (p : FeedPlace) → AllByRecursion (λ s. value_cmp (rowid r) (rowid s) ≡ Less) rows → IsFirstOf (map id_shown rows) (Some p) → value_cmp (rowid r) (Int p.rowid) ≡ Less
first_below r [] p up first = let none = first.2 in absurd cc
first_below r (s ∷ ss) p up first =
    let same : id_shown s ≡ first.0 = (let e = first.2 in cc) in
    let at : rowid s ≡ Int p.rowid = ap (λ x. column x 0) same ∙ first.3 in
    subst (λ v. value_cmp (rowid r) v ≡ Less) at up.0

-- where the rows of an id are found, its place is the first of theirs
place_told : (id : Id) (test : Row → Bool) → ((v : Row) (k : Kept) → drop 1 v ≡ kept_columns k → test v ≡ same_name k.id.0 id.0) → (rows : List Row) (ks : List Kept)
    → map (drop 1) rows ≡ map kept_columns ks → IsNumbered rows → (place : Option FeedPlace) → IsFirstOf (map id_shown (filter test rows)) place → IsPlaceOf rows ks id place
place_told id test same [] [] told numbered None first = refl
place_told id test same [] [] told numbered (Some p) first = let none = first.2 in absurd cc
place_told id test same [] (k ∷ ks) told numbered place first = absurd cc
place_told id test same (r ∷ rs) [] told numbered place first = absurd cc
place_told id test same (r ∷ rs) (k ∷ ks) told numbered place first =
    by_id (same_name k.id.0 id.0) refl place
    (subst (λ t. IsFirstOf (map id_shown (cond t (r ∷ filter test rs) (filter test rs))) place) (same r k here) first)
    (place_told id test same rs ks rest (numbered.0.1, numbered.1.1))
  where
    here : drop 1 r ≡ kept_columns k
    here = cc

    rest : map (drop 1) rs ≡ map kept_columns ks
    rest = cc

    by_id : (t : Bool) → same_name k.id.0 id.0 ≡ t → (place : Option FeedPlace) → IsFirstOf (map id_shown (cond (same_name k.id.0 id.0) (r ∷ filter test rs) (filter test rs))) place
        → ((place : Option FeedPlace) → IsFirstOf (map id_shown (filter test rs)) place → IsPlaceOf rs ks id place) → IsPlaceOf (r ∷ rs) (k ∷ ks) id place
    by_id true e None first more =
        let none : id_shown r ∷ map id_shown (filter test rs) ≡ [] = subst (λ t. map id_shown (cond t (r ∷ filter test rs) (filter test rs)) ≡ []) e first in
        absurd cc
    by_id true e (Some p) first more =
        let it = subst (λ t. IsFirstOf (map id_shown (cond t (r ∷ filter test rs) (filter test rs))) (Some p)) e first in
        let same : id_shown r ≡ it.0 = (let q = it.2 in cc) in
        let at : rowid r ≡ Int p.rowid = ap (λ x. column x 0) same ∙ it.3 in (
          ks,
          ap (λ t. cond t (Some ks) (behind_id id ks)) e,
          ap (λ t. map (drop 1) (cond t (r ∷ filter (is_above p.rowid) rs) (filter (is_above p.rowid) rs))) (not_itself p.rowid r at)
              ∙ ap (map (drop 1)) (all_above p.rowid r rs at numbered.0.0 numbered.1.1) ∙ rest,
        )
    by_id false e None first more =
        ap (λ t. cond t (Some ks) (behind_id id ks)) e ∙ more None (subst (λ t. map id_shown (cond t (r ∷ filter test rs) (filter test rs)) ≡ []) e first)
    by_id false e (Some p) first more =
        let it = subst (λ t. IsFirstOf (map id_shown (cond t (r ∷ filter test rs) (filter test rs))) (Some p)) e first in
        let at = more (Some p) it in
        let low : value_cmp (rowid r) (Int p.rowid) ≡ Less = first_below r (filter test rs) p (all-filter (λ s. value_cmp (rowid r) (rowid s) ≡ Less) test rs numbered.0.0) it in (
          at.0,
          ap (λ t. cond t (Some ks) (behind_id id ks)) e ∙ at.1,
          ap (λ t. map (drop 1) (cond t (r ∷ filter (is_above p.rowid) rs) (filter (is_above p.rowid) rs))) (ap is_gt low) ∙ at.2,
        )

-- the rows of a table rise by their rowids, in the order of the query
rowids_rise : (params : Row) (test project : List Term) (rows : List Row) → IsTable rows
    → IsAscending (λ x y. output_cmp (over_table 21 test project rising no_limit) x y ≡ Less) (map (λ (r : Row). output (over_table 21 test project rising no_limit) (params ∷ r ∷ [])) (filter (passes test params) rows))
rowids_rise params test project rows up =
    ascending-map _ (λ (r : Row). output (over_table 21 test project rising no_limit) (params ∷ r ∷ [])) _
    (ascending_weaker _ (λ r s. output_cmp (over_table 21 test project rising no_limit) (output (over_table 21 test project rising no_limit) (params ∷ r ∷ [])) (output (over_table 21 test project rising no_limit) (params ∷ s ∷ [])) ≡ Less)
    (λ r s less. rw less) _ (ascending-filter _ (passes test params) rows up))

-- the read of a rowid finds the place of the id
pub place_found : (s : State) (b : Stored) (id : Id) (rows : List Row) (place : Option FeedPlace) → IsStoredIn s b → Finds place_sql (Octets id.0 ∷ []) s.now rows → IsFirstOf rows place
    → IsPlaceOf (s.now.trees 21) b.kept id place
place_found s b id rows place shows finds first =
    let is = shows.stands.delivery in
    let are : rows ≡ map id_shown (filter (passes (key_is 1 ∷ []) (Octets id.0 ∷ [])) (s.now.trees 21)) =
    shows_in_order 21 (key_is 1 ∷ []) (col 1 0 ∷ []) rising no_limit (overlay s.now.trees []) (Octets id.0 ∷ []) rows
    (rowids_rise (Octets id.0 ∷ []) (key_is 1 ∷ []) (col 1 0 ∷ []) (s.now.trees 21) is.numbered.0)
    (answers s place_sql place_query (codes "rowid" ∷ []) (Octets id.0 ∷ []) rows place_asks shows.schema_is finds) in
    place_told id (passes (key_is 1 ∷ []) (Octets id.0 ∷ []))
    (λ v k told. told_behind (passes (key_is 1 ∷ []) (Octets id.0 ∷ [])) v _ _ (same_name k.id.0 id.0) (λ w. rw equal_blobs (and_true (same_name k.id.0 id.0))) told)
    (s.now.trees 21) b.kept is.columns_are is.numbered place (subst (λ l. IsFirstOf l place) are first)

-- ---- what is streamed

-- rows of deliveries show them
rows_shown : (params : Row) (rows : List Row) (ks : List Kept) → map (drop 1) rows ≡ map kept_columns ks → map (λ (r : Row). eval_all told_terms (params ∷ r ∷ [])) rows ≡ map accepted_shown (map accepted ks)
rows_shown params [] [] told = refl
rows_shown params [] (k ∷ ks) told = absurd cc
rows_shown params (r ∷ rs) [] told = absurd cc
rows_shown params (r ∷ rs) (k ∷ ks) told =
    let here : drop 1 r ≡ kept_columns k = cc in
    let rest : map (drop 1) rs ≡ map kept_columns ks = cc in
    let one = told_behind (λ v. eval_all told_terms (params ∷ v ∷ [])) r _ _ (accepted_shown (accepted k)) (λ w. refl) here in
    ap (λ x. x ∷ map (λ (r : Row). eval_all told_terms (params ∷ r ∷ [])) rs) one ∙ ap (λ l. accepted_shown (accepted k) ∷ l) (rows_shown params rs ks rest)

-- a query of deliveries streams those that its rows hold
streams_so : (sql : List ℕ) (params : Row) (test : List Term) (s : State) (b : Stored) (left : List Row) (ks : List Kept) → Asks sql (over_table 21 test told_terms rising no_limit) told_names → IsStoredIn s b
    → filter (passes test params) (s.now.trees 21) ≡ left → map (drop 1) left ≡ map kept_columns ks → StreamsRows sql params s accepted_shown (map accepted ks)
streams_so sql params test s b left ks asks shows is told = record {
  query = over_table 21 test told_terms rising no_limit;
  names = told_names;
  plain = subst (λ (t : Schema). IsPlainQuery (understood t sql) (over_table 21 test told_terms rising no_limit) told_names) (sym shows.schema_is)
      (query_of (understood gate_schema sql) (over_table 21 test told_terms rising no_limit) told_names asks.0.0 asks.0.1);
  unlisted = ap (λ (t : Schema). reads_listing t sql) shows.schema_is ∙ asks.1;
  found = λ rows finds.
      shows_in_order 21 test told_terms rising no_limit (overlay s.now.trees []) params rows
      (rowids_rise params test told_terms (s.now.trees 21) shows.stands.delivery.numbered.0)
      (answers s sql (over_table 21 test told_terms rising no_limit) told_names params rows asks shows.schema_is finds)
      ∙ ap (map (λ (r : Row). eval_all told_terms (params ∷ r ∷ []))) is ∙ rows_shown params left ks told;
}

-- all rows pass no test
none_fail : (params : Row) (rows : List Row) → filter (passes [] params) rows ≡ rows
none_fail params [] = refl
none_fail params (r ∷ rs) = ap (λ l. r ∷ l) (none_fail params rs)

-- all deliveries
pub all_streams : (s : State) (b : Stored) → IsStoredIn s b → StreamsRows all_sql [] s accepted_shown (map accepted b.kept)
all_streams s b shows = streams_so all_sql [] [] s b (s.now.trees 21) b.kept all_asks shows (none_fail [] (s.now.trees 21)) shows.stands.delivery.columns_are

-- those above a rowid
pub behind_streams : (s : State) (b : Stored) (place : ℤ) (ks : List Kept) → IsStoredIn s b → HoldAbove (s.now.trees 21) place ks → StreamsRows behind_sql (Int place ∷ []) s accepted_shown (map accepted ks)
behind_streams s b place ks shows above =
    streams_so behind_sql (Int place ∷ []) behind_test s b (filter (is_above place) (s.now.trees 21)) ks behind_asks shows
    (filter_same_on _ _ (s.now.trees 21) (above_rows place (s.now.trees 21) shows.stands.delivery.numbered.1)) above

-- ---- the text

-- the lines are those of the feed
lines_are : (n : ℕ) (ks : List Kept) → lines_of_records accepted_line n (map accepted ks) ≡ feed_lines ks
lines_are n [] = refl
lines_are n (k ∷ ks) = ap (λ l. accepted_line n (accepted k) ++ l) (lines_are (n + 1) ks)

-- and so is the text
text_is : (front : List ℕ) (most : ℕ) (ks : List Kept) → body front accepted_line most (map accepted ks) ≡ front ++ feed_lines (take most ks)
text_is front most ks = ap (λ l. front ++ lines_of_records accepted_line 0 l) (take-map accepted most ks) ∙ ap (λ l. front ++ l) (lines_are 0 (take most ks))

-- what is written of the deliveries behind an id, or of all, is the feed
pub feeds : {W : Type 0} (kept ks : List Kept) (after : Option Id) (most : ℕ) (front : List ℕ) (held : W → Option (List ℕ)) (old new : Tap W) (result : Result ℕ FeedFault) → behind after kept ≡ Some ks
    → WritesDeliveries held old new front most (map accepted ks) result → WritesFeed kept after most front held old new result
feeds kept ks after most front held old new (Ok n) is it = record {
  told = take most ks;
  are = ap (option_map (λ ks. take most ks)) is;
  taken = (subst (Took held old new) (text_is front most ks) it.0, it.1 ∙ ap length (take-map accepted most ks) ∙ length-map (take most ks) accepted);
}
feeds kept ks after most front held old new (Err fault.NoDelivery) is it = absurd it
feeds kept ks after most front held old new (Err fault.Unavailable) is it = tt
feeds kept ks after most front held old new (Err fault.Broken) is it = record { told = take most ks; are = ap (option_map (λ ks. take most ks)) is; taken = subst (TookSome held old new) (text_is front most ks) it }
feeds kept ks after most front held old new (Err fault.Write) is it = record { told = take most ks; are = ap (option_map (λ ks. take most ks)) is; taken = subst (TookSome held old new) (text_is front most ks) it }

-- What the read of a queue's reports finds, in the order of their places.
use Rattle.std.proofs.Common.{◌≡◌, ◌≤◌, ◌<◌, ◌<ℤ◌, ℕ, suc, pos, List, [], ◌∷◌, map, filter, refl, sym, ap, subst, ◌∙◌}
use Rattle.std.proofs.Common.{arith, IsPermutation, Less, codes}
use Rattle.std.proofs.lemmas.Int.{ints}
use Rattle.std.proofs.lemmas.List.Sorted.{IsPermutation-map, IsPermutation-sym, IsPermutation-trans}
use Rattle.std.specs.List.{AllByRecursion}
use Rattle.sqlite.specs.Collation.TheVariants.{Binary}
use Rattle.sqlite.specs.Listing.{understood}
use Rattle.sqlite.specs.Order.{Row}
use Rattle.sqlite.specs.Program.{overlay}
use Rattle.sqlite.specs.Query.{Output, Query, output, output_cmp, page}
use Rattle.sqlite.specs.State.{State}
use Rattle.sqlite.specs.Term.{Term, col}
use Rattle.sqlite.specs.declared.types.Value.TheVariants.{Text as Words}
use Rattle.sqlite_keyed.proofs.ListLemmas.{ascending-map, ascending_weaker, map-map}
use Rattle.sqlite_keyed.proofs.SortLemmas.{sorted_unique}
use Rattle.sqlite_sql.proofs.QueryLemmas.{output_cmp_total}
use Rattle.sqlite_tied.proofs.RuleLemmas.{and_true}
use Rattle.sqlite_tied.specs.Compute.{everything}
use Rattle.sqlite_trees.specs.Tree.{IsAscending}
use Rattle.sqlite_value.specs.Keys.{ascending}
use Rattle.gate_types.specs.Names.{same_name}
use Rattle.gate_types.specs.Rows.{numbered_reports}
use Rattle.gate_types.specs.declared.records.Report.{Report}
use Rattle.gate_types.specs.declared.rows.ReportRow.{ReportRow}
use Rattle.gate_rows.specs.Matches.{reports_of}
use Rattle.gate_schema.specs.Rows.{QueueReport, Stored, report_columns}
use Rattle.gate_schema.proofs.QueryLemmas.{kept_is, over_table, passes}
use Rattle.gate_schema.proofs.Statements.{Asks, key_is, no_limit}
use Rattle.gate_schema.proofs.ValueLemmas.{equal_texts}
use Rattle.gate_found_rows.specs.Finds.{Finds}
use Rattle.gate_queue_queries.specs.History.{HoldsReports, history_sql, report_shown}
use Rattle.gate_found_rows.specs.Reads.{IsStoredIn}
use Rattle.gate_found_rows.specs.Shown.{number_shown}
use Rattle.gate_found_rows.proofs.KeyedReads.{rises}
use Rattle.gate_schema.proofs.ListedQueries.{kept_shown}
use Rattle.gate_schema.proofs.RowLemmas.{told_behind}
use Rattle.gate_found_rows.proofs.ReadLemmas.{answers}

abbrev pub report_terms : List Term
report_terms = col 1 3 ∷ col 1 4 ∷ col 1 5 ∷ col 1 6 ∷ col 1 7 ∷ []

abbrev pub history_query : Query
history_query = over_table 18 (key_is 1 ∷ []) report_terms ((col 1 2, ascending Binary) ∷ []) no_limit

abbrev pub history_names : List (List ℕ)
history_names = codes "serial" ∷ codes "change" ∷ codes "revision" ∷ codes "verdict" ∷ codes "n" ∷ []

pub history_asks : Asks history_sql history_query history_names
unfolding understood everything
history_asks = ((refl, (refl, refl)), refl)

-- what the query makes of a report: what it sorts by, and what it shows
abbrev pub out : ReportRow → Output
out r = (number_shown r.place, report_shown r.report)

-- each of numbered reports stands behind the number before the first
pub numbered_above : (m n : ℕ) (rs : List Report) → m ≤ n → AllByRecursion (λ (s : ReportRow). m < s.place) (numbered_reports n rs)
numbered_above m n [] low = tt
numbered_above m n (r ∷ rs) low = (omega arith, numbered_above m (suc n) rs (omega arith))

-- so their places rise
pub numbered_rises : (n : ℕ) (rs : List Report) → IsAscending (λ (r s : ReportRow). r.place < s.place) (numbered_reports n rs)
numbered_rises n [] = tt
numbered_rises n (r ∷ rs) = (numbered_above (suc n) (suc n) rs (omega arith), numbered_rises (suc n) rs)

-- what is shown of numbered reports
pub numbered_shown : (n : ℕ) (rs : List Report) → map (λ (r : ReportRow). report_shown r.report) (numbered_reports n rs) ≡ map report_shown rs
numbered_shown n [] = refl
numbered_shown n (r ∷ rs) = ap (λ l. report_shown r ∷ l) (numbered_shown (suc n) rs)

-- the read shows the reports by their places
pub reports_found : (s : State) (b : Stored) (name : List ℕ) (rs : List Report) (rows : List Row) → IsStoredIn s b → HoldsReports b name rs → Finds history_sql (Words name ∷ []) s.now rows
    → rows ≡ map report_shown rs
reports_found s b name rs rows shown holds finds =
    let params = Words name ∷ [] in
    let q = history_query in
    let db = overlay s.now.trees [] in
    let a = answers s history_sql history_query history_names params rows history_asks shown.schema_is finds in
    let outs : map (λ (r : Row). output q (params ∷ r ∷ [])) (filter (passes (key_is 1 ∷ []) (Words name ∷ [])) (db 18)) ≡ map (λ (l : QueueReport). out l.row) (filter (λ (l : QueueReport). same_name l.queue name) b.reports) =
    kept_shown report_columns (passes (key_is 1 ∷ []) (Words name ∷ [])) (λ (l : QueueReport). same_name l.queue name)
    (λ v l is. told_behind (passes (key_is 1 ∷ []) (Words name ∷ [])) v _ _ (same_name l.queue name) (λ w. rw equal_texts (and_true (same_name l.queue name))) is)
    (λ r. output history_query ((Words name ∷ []) ∷ r ∷ [])) (λ (l : QueueReport). out l.row)
    (λ v l is. told_behind (λ v. output history_query ((Words name ∷ []) ∷ v ∷ [])) v _ _ (out l.row) (λ w. refl) is)
    (db 18) b.reports shown.stands.report.columns_are in
    let kept : a.kept ≡ map out (reports_of name b.reports) =
    kept_is 18 (key_is 1 ∷ []) report_terms ((col 1 2, ascending Binary) ∷ []) no_limit db params rows a ∙ outs ∙ sym (map-map out (λ (l : QueueReport). l.row) _) in
    let up : IsAscending (λ x y. output_cmp q x y ≡ Less) (map out (numbered_reports 0 rs)) =
    ascending-map _ out _ (ascending_weaker _ (λ (r t : ReportRow). output_cmp q (out r) (out t) ≡ Less)
    (λ r t less. let above : pos r.place <ℤ pos t.place = omega (arith, ints) in rises _ _ r.place t.place refl refl above) _ (numbered_rises 0 rs)) in
    let same : IsPermutation (map out (numbered_reports 0 rs)) a.ordered =
    IsPermutation-trans _ _ _ (IsPermutation-map out _ _ (IsPermutation-sym _ _ holds)) (subst (λ k. IsPermutation k a.ordered) kept a.same) in
    let ordered : a.ordered ≡ map out (numbered_reports 0 rs) = sorted_unique (output_cmp q) (output_cmp_total q) _ _ up same a.sorted in
    a.shown ∙ ap (λ os. page q (Words name ∷ []) (map (λ (o : Output). o.1) os)) ordered ∙ map-map _ out _ ∙ numbered_shown 0 rs

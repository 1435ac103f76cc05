-- What the read of a queue's reports from a place on finds, and the text that is written of it.
use Rattle.std.proofs.Common.{◌≡◌, ◌≤◌, ◌<◌, ◌<ℤ◌, ◌+◌, ◌-◌, ◌&&◌, ℕ, zero, suc, pos, Bool, true, false, cond, List}
use Rattle.std.proofs.Common.{[], ◌∷◌, ◌++◌, drop, filter, fold, length, map, take, max, min, nat_le, is_ge, refl}
use Rattle.std.proofs.Common.{sym, ap, subst, ◌∙◌, arith, append_assoc, IsPermutation, Less}
use Rattle.std.specs.Prelude.{flat_map}
use Rattle.std.specs.List.{enumerate_from}
use Rattle.std.proofs.lemmas.Bool.Decides.{nat_tests}
use Rattle.std.proofs.lemmas.Int.{ints}
use Rattle.std.proofs.lemmas.List.Sorted.{IsPermutation-map, IsPermutation-sym, IsPermutation-trans}
use Rattle.sqlite.specs.Collation.TheVariants.{Binary}
use Rattle.sqlite.specs.Listing.{reads_listing, understood}
use Rattle.sqlite.specs.Ops.{binary, is_true}
use Rattle.sqlite.specs.Order.{Row}
use Rattle.sqlite.specs.Program.{overlay}
use Rattle.sqlite.specs.Query.{Output, Query, output, output_cmp, page}
use Rattle.sqlite.specs.Schema.{Schema}
use Rattle.sqlite.specs.State.{State}
use Rattle.sqlite.specs.Term.{Term, col, op2}
use Rattle.sqlite.specs.declared.types.Value.TheVariants.{Int, Text as Words}
use Rattle.sqlite_keyed.proofs.ListLemmas.{ascending-map, ascending_weaker, map-map}
use Rattle.sqlite_keyed.proofs.SortLemmas.{sorted_unique}
use Rattle.sqlite_sql.proofs.QueryLemmas.{output_cmp_total}
use Rattle.sqlite_sql.specs.declared.ops.BinaryOp.TheVariants.{Compare}
use Rattle.sqlite_sql.specs.declared.ops.CompareOp.TheVariants.{Ge}
use Rattle.sqlite_tied.proofs.RuleLemmas.{and_true}
use Rattle.sqlite_tied.specs.Compute.{everything}
use Rattle.sqlite_trees.proofs.ListLemmas.{IsPermutation-filter}
use Rattle.sqlite_trees.specs.Tree.{IsAscending}
use Rattle.sqlite_value.specs.Keys.{ascending}
use Rattle.gate_types.specs.History.{report_row}
use Rattle.gate_types.specs.Names.{same_name}
use Rattle.gate_types.specs.Rows.{numbered_reports}
use Rattle.gate_types.specs.declared.records.Report.{Report}
use Rattle.gate_types.specs.declared.rows.ReportRow.{ReportRow}
use Rattle.gate_book_trait.specs.Text.{first_line, closing_line}
use Rattle.gate_rows.specs.Matches.{reports_of}
use Rattle.gate_schema.specs.Rows.{QueueReport, Stored, report_columns}
use Rattle.gate_schema.specs.Schema.{gate_schema}
use Rattle.gate_schema.proofs.QueryLemmas.{kept_is, over_table, passes}
use Rattle.gate_schema.proofs.Statements.{Asks, key_is, no_limit}
use Rattle.gate_schema.proofs.ValueLemmas.{equal_texts, value_cmp-pos}
use Rattle.gate_found_rows.specs.Asked.{last_report}
use Rattle.gate_found_rows.specs.Finds.{Finds, IsPlainQuery}
use Rattle.gate_found_rows.specs.Reads.{IsStoredIn}
use Rattle.gate_found_rows.proofs.GreatestLemmas.{greatest_in_any_order, larger}
use Rattle.gate_found_rows.proofs.KeyedReads.{rises, truth_of}
use Rattle.gate_found_rows.proofs.ListFacts.{filter_in}
use Rattle.gate_schema.proofs.ListedQueries.{kept_shown}
use Rattle.gate_schema.proofs.RowLemmas.{told_behind}
use Rattle.gate_found_rows.proofs.ReadLemmas.{answers}
use Rattle.gate_queue_queries.specs.History.{report_shown}
use Rattle.gate_queue_queries.proofs.ReportReads.{report_terms, history_names, numbered_rises, numbered_shown, out}
use Rattle.gate_queue_queries.proofs.HistoryLemmas.{lines_are}
use Rattle.gate_queue_queries.proofs.StreamLemmas.{query_of}
use Rattle.gate_queue_queries.specs.Streamed.{StreamsRows, body, line_from, lines_of_records}
use Rattle.gate_archive_queries.specs.HistoryFrom.{HoldsDrawnReports, history_from_sql, text_from}
use Rattle.gate_types.specs.Counters.{last_number}
use Rattle.gate_types.specs.Limits.{most_listed}

-- of the queue, at the place or behind it
abbrev from_test : List Term
from_test = key_is 1 ∷ op2 (Compare Ge Binary) (col 1 2) (col 0 1) ∷ []

abbrev pub history_query : Query
history_query = over_table 18 from_test report_terms ((col 1 2, ascending Binary) ∷ []) no_limit

pub history_asks : Asks history_from_sql history_query history_names
unfolding understood everything
history_asks = ((refl, (refl, refl)), refl)

-- ---- places from one on

-- how SQL compares numbers by `>=`
least_number : (a b : ℕ) → is_true (binary (Compare Ge Binary) (Int (pos a)) (Int (pos b))) ≡ nat_le b a
unfolding binary
least_number a b = truth_of _ ∙ ap is_ge (value_cmp-pos a b) ∙ grind (arith, nat_tests)

-- a report at a place or behind it
abbrev is_from : ℕ → ReportRow → Bool
is_from first r = nat_le first r.place

-- all numbered reports stand behind the number before the first
all_from : (first n : ℕ) (rs : List Report) → first ≤ suc n → filter (is_from first) (numbered_reports n rs) ≡ numbered_reports n rs
all_from first n [] low = refl
all_from first n (r ∷ rs) low =
    let here : nat_le first (suc n) ≡ true = grind (arith, nat_tests) in
    ap (λ t. cond t ((record { place = suc n; report = r }) ∷ filter (is_from first) (numbered_reports (suc n) rs)) (filter (is_from first) (numbered_reports (suc n) rs))) here
    ∙ ap (λ l. (record { place = suc n; report = r }) ∷ l) (all_from first (suc n) rs (omega arith))

-- so those from a place on are left when the ones before it are taken off
some_from : (first n k : ℕ) (rs : List Report) → first ≡ suc (n + k) → filter (is_from first) (numbered_reports n rs) ≡ numbered_reports (n + k) (drop k rs)
some_from first n zero rs is =
    let e : n ≡ n + 0 = omega arith in
    all_from first n rs (omega (arith, is)) ∙ ap (λ m. numbered_reports m rs) e
some_from first n (suc k) [] is = refl
some_from first n (suc k) (r ∷ rs) is =
    let here : nat_le first (suc n) ≡ false = grind (arith, nat_tests) in
    let e : suc n + k ≡ n + suc k = omega arith in
    ap (λ t. cond t ((record { place = suc n; report = r }) ∷ filter (is_from first) (numbered_reports (suc n) rs)) (filter (is_from first) (numbered_reports (suc n) rs))) here
    ∙ some_from first (suc n) k rs (omega (arith, is)) ∙ ap (λ m. numbered_reports m (drop k rs)) e

-- ---- what is found

-- the read shows the reports from the place on, by their places
reports_found : (s : State) (b : Stored) (name : List ℕ) (first : ℕ) (rs : List Report) (rows : List Row) → IsStoredIn s b → IsPermutation (reports_of name b.reports) (numbered_reports 0 rs) → 1 ≤ first
    → Finds history_from_sql (Words name ∷ Int (pos first) ∷ []) s.now rows → rows ≡ map report_shown (drop (first - 1) rs)
reports_found s b name first rs rows shown holds some finds =
    let params = Words name ∷ Int (pos first) ∷ [] in
    let q = history_query in
    let db = overlay s.now.trees [] in
    let k = first - 1 in
    let is : first ≡ suc (0 + (first - 1)) = omega (arith, some) in
    let there : filter (is_from first) (numbered_reports 0 rs) ≡ numbered_reports (0 + (first - 1)) (drop (first - 1) rs) = some_from first 0 (first - 1) rs is in
    let a = answers s history_from_sql history_query history_names params rows history_asks shown.schema_is finds in
    let outs : map (λ (r : Row). output q (params ∷ r ∷ [])) (filter (passes from_test (Words name ∷ Int (pos first) ∷ [])) (db 18))
    ≡ map (λ (l : QueueReport). out l.row) (filter (λ (l : QueueReport). same_name l.queue name && is_from first l.row) b.reports) =
    kept_shown report_columns (passes from_test (Words name ∷ Int (pos first) ∷ [])) (λ (l : QueueReport). same_name l.queue name && is_from first l.row)
    (λ v l is. told_behind (passes from_test (Words name ∷ Int (pos first) ∷ [])) v _ _ (same_name l.queue name && is_from first l.row)
    (λ w. rw (equal_texts l.queue name, least_number l.row.place first, and_true (nat_le first l.row.place))) is)
    (λ r. output history_query ((Words name ∷ Int (pos first) ∷ []) ∷ r ∷ [])) (λ (l : QueueReport). out l.row)
    (λ v l is. told_behind (λ v. output history_query ((Words name ∷ Int (pos first) ∷ []) ∷ v ∷ [])) v _ _ (out l.row) (λ w. refl) is)
    (db 18) b.reports shown.stands.report.columns_are in
    let kept : a.kept ≡ map out (filter (is_from first) (reports_of name b.reports)) =
    kept_is 18 from_test report_terms ((col 1 2, ascending Binary) ∷ []) no_limit db params rows a ∙ outs ∙ sym (map-map out (λ (l : QueueReport). l.row) _)
    ∙ ap (map out) (sym (filter_in (λ (l : QueueReport). same_name l.queue name) (is_from first) (λ (l : QueueReport). l.row) b.reports)) in
    let up : IsAscending (λ x y. output_cmp q x y ≡ Less) (map out (numbered_reports (0 + (first - 1)) (drop (first - 1) rs))) =
    ascending-map _ out _ (ascending_weaker _ (λ (r t : ReportRow). output_cmp q (out r) (out t) ≡ Less)
    (λ r t less. let above : pos r.place <ℤ pos t.place = omega (arith, ints) in rises _ _ r.place t.place refl refl above) _ (numbered_rises (0 + (first - 1)) (drop (first - 1) rs))) in
    let same : IsPermutation (map out (numbered_reports (0 + (first - 1)) (drop (first - 1) rs))) a.ordered =
    IsPermutation-trans _ _ _ (IsPermutation-map out _ _ (subst (λ l. IsPermutation l (filter (is_from first) (reports_of name b.reports))) there
    (IsPermutation-filter (is_from first) (numbered_reports 0 rs) (reports_of name b.reports) (IsPermutation-sym _ _ holds)))) (subst (λ k. IsPermutation k a.ordered) kept a.same) in
    let ordered : a.ordered ≡ map out (numbered_reports (0 + (first - 1)) (drop (first - 1) rs)) = sorted_unique (output_cmp q) (output_cmp_total q) _ _ up same a.sorted in
    a.shown ∙ ap (λ os. page q (Words name ∷ Int (pos first) ∷ []) (map (λ (o : Output). o.1) os)) ordered ∙ map-map _ out _ ∙ numbered_shown (0 + (first - 1)) (drop (first - 1) rs)

-- so the query streams them
pub history_streams : (s : State) (b : Stored) (name : List ℕ) (first : ℕ) (rs : List Report) → IsStoredIn s b → HoldsDrawnReports b name rs → 1 ≤ first
    → StreamsRows history_from_sql (Words name ∷ Int (pos first) ∷ []) s report_shown (drop (first - 1) rs)
history_streams s b name first rs shown holds some = record {
  query = history_query;
  names = history_names;
  plain = subst (λ (t : Schema). IsPlainQuery (understood t history_from_sql) history_query history_names) (sym shown.schema_is) (query_of (understood gate_schema history_from_sql) history_query history_names history_asks.0.0 history_asks.0.1);
  unlisted = ap (λ (t : Schema). reads_listing t history_from_sql) shown.schema_is ∙ history_asks.1;
  found = λ rows finds. reports_found s b name first rs rows shown holds.0 some finds;
}

-- ---- how many there are

-- the last of numbered reports has the greatest place
last_numbered : (n : ℕ) (rs : List Report) → fold larger n (map (λ (r : ReportRow). r.place) (numbered_reports n rs)) ≡ n + length rs
last_numbered n [] = omega arith
last_numbered n (r ∷ rs) =
    let next : larger n (suc n) ≡ suc n = grind (arith, nat_tests) in
    let more = last_numbered (suc n) rs in
    ap (λ m. fold larger m (map (λ (r : ReportRow). r.place) (numbered_reports (suc n) rs))) next ∙ omega (arith, more)

-- so the last place is how many there are
pub last_is : (b : Stored) (name : List ℕ) (rs : List Report) → HoldsDrawnReports b name rs → last_report b name ≡ length rs
last_is b name rs holds =
    greatest_in_any_order (map (λ (r : ReportRow). r.place) (reports_of name b.reports)) (map (λ (r : ReportRow). r.place) (numbered_reports 0 rs))
    (IsPermutation-map (λ (r : ReportRow). r.place) _ _ holds.0) ∙ last_numbered 0 rs ∙ omega arith

-- ---- the text

-- the first of numbered records are the first records, numbered
take-enumerate : {X : Type 0} (m n : ℕ) (xs : List X) → take m (enumerate_from n xs) ≡ enumerate_from n (take m xs)
take-enumerate zero n xs = refl
take-enumerate (suc m) n [] = refl
take-enumerate (suc m) n (x ∷ xs) = ap (λ l. (n, x) ∷ l) (take-enumerate m (n + 1) xs)

-- and so it is of the rest
drop-enumerate : {X : Type 0} (k n : ℕ) (xs : List X) → drop k (enumerate_from n xs) ≡ enumerate_from (n + k) (drop k xs)
drop-enumerate zero n xs = let e : n ≡ n + 0 = omega arith in ap (λ m. enumerate_from m xs) e
drop-enumerate (suc k) n [] = refl
drop-enumerate (suc k) n (x ∷ xs) = let e : n + 1 + k ≡ n + suc k = omega arith in drop-enumerate k (n + 1) xs ∙ ap (λ m. enumerate_from m (drop k xs)) e

-- nothing is left behind the end
drop_none : {X : Type 0} (k : ℕ) (xs : List X) → length xs ≤ k → drop k xs ≡ []
drop_none zero [] long = refl
drop_none (suc k) [] long = refl
drop_none zero (x ∷ xs) long = absurd (omega (arith, long))
drop_none (suc k) (x ∷ xs) long = drop_none k xs (omega (arith, long))

-- a place behind the last may be any that is
rest_is : {X : Type 0} (from : ℕ) (xs : List X) → length xs ≤ last_number
    → enumerate_from (max (min from 9223372036854775807) 1) (drop (max (min from 9223372036854775807) 1 - 1) xs) ≡ drop (from - 1) (enumerate_from 1 xs)
rest_is {X} from xs few = by_size (nat_le from 9223372036854775807) refl
  where
    at : ℕ
    at = max (min from 9223372036854775807) 1

    by_size : (t : Bool) → nat_le from 9223372036854775807 ≡ t → enumerate_from at (drop (at - 1) xs) ≡ drop (from - 1) (enumerate_from 1 xs)
    by_size true e =
        let low : from ≤ 9223372036854775807 = grind (arith, nat_tests) in
        let same : at - 1 ≡ from - 1 = omega (arith, low) in
        let first : at ≡ 1 + (from - 1) = omega (arith, low) in
        ap (λ k. enumerate_from at (drop k xs)) same ∙ ap (λ m. enumerate_from m (drop (from - 1) xs)) first ∙ sym (drop-enumerate (from - 1) 1 xs)
    by_size false e =
        let high : 9223372036854775807 < from = grind (arith, nat_tests) in
        let one : drop (at - 1) xs ≡ [] = drop_none (at - 1) xs (omega (arith, high, few)) in
        let two : drop (from - 1) xs ≡ [] = drop_none (from - 1) xs (omega (arith, high, few)) in
        ap (enumerate_from at) one ∙ ap (enumerate_from (1 + (from - 1))) (sym two) ∙ sym (drop-enumerate (from - 1) 1 xs)

-- what is written is the history text from the place on
pub text_is : (front name : List ℕ) (from count : ℕ) (rs : List Report) → length rs ≤ last_number → count ≡ length rs
    → body (front ++ first_line name) (line_from (max (min from 9223372036854775807) 1)) most_listed (drop (max (min from 9223372036854775807) 1 - 1) rs) ++ closing_line count ≡ front ++ text_from name from rs
text_is front name from count rs few counted =
    let at = max (min from 9223372036854775807) 1 in
    let e : max (min from 9223372036854775807) 1 + 0 ≡ max (min from 9223372036854775807) 1 = omega arith in
    let told : lines_of_records (line_from (max (min from 9223372036854775807) 1)) 0 (take most_listed (drop (max (min from 9223372036854775807) 1 - 1) rs)) ≡ flat_map report_row (take most_listed (drop (from - 1) (enumerate_from 1 rs))) =
    lines_are (max (min from 9223372036854775807) 1) 0 _
    ∙ ap (λ m. flat_map report_row (enumerate_from m (take most_listed (drop (max (min from 9223372036854775807) 1 - 1) rs)))) e
    ∙ ap (flat_map report_row) (sym (take-enumerate most_listed (max (min from 9223372036854775807) 1) (drop (max (min from 9223372036854775807) 1 - 1) rs)) ∙ ap (take most_listed) (rest_is from rs few)) in
    ap (λ l. ((front ++ first_line name) ++ l) ++ closing_line count) told
    ∙ ap (λ n. ((front ++ first_line name) ++ flat_map report_row (take most_listed (drop (from - 1) (enumerate_from 1 rs)))) ++ closing_line n) counted
    ∙ append_assoc (front ++ first_line name) _ _ ∙ append_assoc front (first_line name) _

-- What the reads of queues find.
use Rattle.std.proofs.Common.{◌≡◌, ℕ, pos, nat_le, true, ◌&&◌, List, [], ◌∷◌, filter, length, map, refl, sym, ap}
use Rattle.std.proofs.Common.{subst, ◌∙◌, arith, nat_lt, codes, is_lt}
use Rattle.std.proofs.lemmas.Bool.Decides.{nat_tests}
use Rattle.std.proofs.lemmas.List.{length-map}
use Rattle.std.proofs.lemmas.List.Elements.{All-from_recursion, recursion_from_All}
use Rattle.std.specs.List.{AllPass}
use Rattle.sqlite.specs.Collation.TheVariants.{Binary}
use Rattle.sqlite.specs.Ops.{binary, is_true}
use Rattle.sqlite.specs.Order.{Row}
use Rattle.sqlite.specs.Program.{overlay}
use Rattle.sqlite.specs.State.{State}
use Rattle.sqlite.specs.Term.{col, eval, eval_all}
use Rattle.sqlite.specs.declared.types.Value.TheVariants.{Int, Text as Words}
use Rattle.sqlite_keyed.proofs.ListLemmas.{all_map, filter-map, filter_same, map-map}
use Rattle.sqlite_sql.specs.declared.ops.BinaryOp.TheVariants.{Compare}
use Rattle.sqlite_sql.specs.declared.ops.CompareOp.TheVariants.{Lt}
use Rattle.sqlite_tied.proofs.RuleLemmas.{and_true}
use Rattle.gate_types.specs.Names.{same_name}
use Rattle.gate_types.specs.declared.rows.LandingRow.{LandingRow}
use Rattle.gate_types.specs.declared.rows.ReportRow.{ReportRow}
use Rattle.gate_rows.specs.Matches.{items_of, landings_of, reports_of}
use Rattle.gate_schema.specs.Rows.{QueueLanding, QueueReport, QueueRow, Stored, item_table_row, landing_columns}
use Rattle.gate_schema.specs.Rows.{queue_columns, report_columns}
use Rattle.gate_schema.proofs.QueryLemmas.{passes}
use Rattle.gate_schema.proofs.Statements.{key_is, no_limit}
use Rattle.gate_schema.proofs.ValueLemmas.{equal_texts, value_cmp-pos}
use Rattle.gate_found_rows.specs.Finds.{Finds}
use Rattle.gate_found_rows.specs.Reads.{IsStoredIn}
use Rattle.gate_queue_queries.proofs.CountReads.{counted, counts}
use Rattle.gate_found_rows.specs.Shown.{number_shown}
use Rattle.gate_found_rows.proofs.GreatestLemmas.{ShowGreatest}
use Rattle.gate_found_rows.proofs.ListFacts.{filter_in}
use Rattle.gate_schema.proofs.ListedQueries.{listed_in_turn}
use Rattle.gate_schema.proofs.RowLemmas.{told_behind}
use Rattle.gate_found_rows.proofs.ListedReads.{listed_greatest}
use Rattle.gate_queue_queries.proofs.QueueTexts.{before_asks, before_query, before_sql, before_test, count_asks}
use Rattle.gate_queue_queries.proofs.QueueTexts.{count_query, count_sql, landing_asks, landing_query, landing_sql}
use Rattle.gate_queue_queries.proofs.QueueTexts.{report_asks, report_query, report_sql, window_asks, window_query}
use Rattle.gate_queue_queries.proofs.QueueTexts.{window_sql}
use Rattle.gate_found_rows.proofs.ReadLemmas.{answers}
use Rattle.gate_found_rows.proofs.ShownLemmas.{pass_filter}
use Rattle.gate_found_rows.proofs.KeyedReads.{truth_of}
use Rattle.gate_types.specs.Limits.{most_window}

-- ---- the window

-- the windows of the queues of a name, in the order in which they were written
pub window_found : (s : State) (b : Stored) (name : List ℕ) (rows : List Row) → IsStoredIn s b → Finds window_sql (Words name ∷ []) s.now rows
    → rows ≡ map number_shown (map (λ (q : QueueRow). q.window) (filter (λ q. same_name q.name name) b.queues))
window_found s b name rows shows finds =
    let params = Words name ∷ [] in
    listed_in_turn queue_columns (λ q. number_shown q.window) 4 (key_is 1 ∷ []) (col 1 3 ∷ []) no_limit params (λ q. same_name q.name name)
    (λ v q is. told_behind (passes (key_is 1 ∷ []) (Words name ∷ [])) v _ _ (same_name q.name name) (λ w. rw equal_texts (and_true (same_name q.name name))) is)
    (λ v q is. told_behind (λ v. eval_all (col 1 3 ∷ []) ((Words name ∷ []) ∷ v ∷ [])) v _ _ (number_shown q.window) (λ w. refl) is)
    (overlay s.now.trees []) b.queues rows shows.stands.queue
    (answers s window_sql window_query (codes "win" ∷ []) params rows window_asks shows.schema_is finds) ∙ sym (map-map number_shown (λ (q : QueueRow). q.window) _)

-- each is at most 1,000
pub windows_in_form : (name : List ℕ) (qs : List QueueRow) → AllPass (λ (q : QueueRow). nat_le q.window most_window) qs
    → AllPass (λ n. nat_le n most_window) (map (λ (q : QueueRow). q.window) (filter (λ (q : QueueRow). same_name q.name name) qs))
windows_in_form name qs all =
    All-from_recursion (λ n. nat_le n most_window ≡ true) _ (all_map (λ n. nat_le n most_window ≡ true) (λ (q : QueueRow). q.window) _
    (recursion_from_All (λ (q : QueueRow). nat_le q.window most_window ≡ true) _ (pass_filter (λ (q : QueueRow). nat_le q.window most_window) (λ (q : QueueRow). same_name q.name name) qs all)))

-- ---- the items

-- how many there are
pub count_found : (s : State) (b : Stored) (name : List ℕ) (rows : List Row) → IsStoredIn s b → Finds count_sql (Words name ∷ []) s.now rows
    → rows ≡ counted (length (items_of name b.items)) ∷ []
count_found s b name rows shows finds =
    let params = Words name ∷ [] in
    let found : filter (passes (key_is 2 ∷ []) (Words name ∷ [])) (overlay s.now.trees [] 11) ≡ map item_table_row (filter (λ i. same_name i.queue name) b.items) =
    ap (filter (passes (key_is 2 ∷ []) (Words name ∷ []))) shows.stands.item.rows_are ∙ filter-map _ item_table_row b.items
    ∙ ap (map item_table_row) (filter_same _ _ (λ i. rw equal_texts (and_true (same_name i.queue name))) b.items) in
    let many : length (filter (passes (key_is 2 ∷ []) (Words name ∷ [])) (overlay s.now.trees [] 11)) ≡ length (items_of name b.items) =
    ap length found ∙ simp length-map in
    counts 11 (key_is 2 ∷ []) (overlay s.now.trees []) params rows (answers s count_sql count_query (codes "count(*)" ∷ []) params rows count_asks shows.schema_is finds)
    ∙ ap (λ n. counted n ∷ []) many

-- ---- the last landing, and the last before a serial

-- the place of the last landing
pub landing_found : (s : State) (b : Stored) (name : List ℕ) (rows : List Row) → IsStoredIn s b → Finds landing_sql (Words name ∷ []) s.now rows
    → ShowGreatest (map (λ (r : LandingRow). r.place) (landings_of name b.landings)) rows
landing_found s b name rows shows finds =
    let params = Words name ∷ [] in
    subst (λ ns. ShowGreatest ns rows) (sym (map-map (λ (r : LandingRow). r.place) (λ (l : QueueLanding). l.row) _))
    (listed_greatest landing_columns 14 (key_is 1 ∷ []) (col 1 2) params (λ (l : QueueLanding). same_name l.queue name)
    (λ v l is. told_behind (passes (key_is 1 ∷ []) (Words name ∷ [])) v _ _ (same_name l.queue name) (λ w. rw equal_texts (and_true (same_name l.queue name))) is)
    (λ l. l.row.place)
    (λ v l is. told_behind (λ v. eval (col 1 2) ((Words name ∷ []) ∷ v ∷ [])) v _ _ (Int (pos l.row.place)) (λ w. refl) is)
    (overlay s.now.trees []) b.landings rows shows.stands.landing
    (answers s landing_sql landing_query (codes "n" ∷ []) params rows landing_asks shows.schema_is finds))

-- how SQL compares numbers by `<`
below_number : (a b : ℕ) → is_true (binary (Compare Lt Binary) (Int (pos a)) (Int (pos b))) ≡ nat_lt a b
unfolding binary
below_number a b = truth_of _ ∙ ap is_lt (value_cmp-pos a b) ∙ grind (arith, nat_tests)

-- the places of the landings of a queue with a lower serial
places_before : (name : List ℕ) (serial : ℕ) (ls : List QueueLanding) → map (λ (l : QueueLanding). l.row.place) (filter (λ (l : QueueLanding). same_name l.queue name && nat_lt l.row.landing.serial serial) ls)
    ≡ map (λ (r : LandingRow). r.place) (filter (λ (r : LandingRow). nat_lt r.landing.serial serial) (landings_of name ls))
places_before name serial ls =
    sym (map-map (λ (r : LandingRow). r.place) (λ (l : QueueLanding). l.row) _)
    ∙ ap (map (λ (r : LandingRow). r.place)) (sym (filter_in (λ (l : QueueLanding). same_name l.queue name) (λ (r : LandingRow). nat_lt r.landing.serial serial) (λ (l : QueueLanding). l.row) ls))

-- the place of the last landing before a serial
pub before_found : (s : State) (b : Stored) (name : List ℕ) (serial : ℕ) (rows : List Row) → IsStoredIn s b → Finds before_sql (Words name ∷ Int (pos serial) ∷ []) s.now rows
    → ShowGreatest (map (λ (r : LandingRow). r.place) (filter (λ (r : LandingRow). nat_lt r.landing.serial serial) (landings_of name b.landings))) rows
before_found s b name serial rows shows finds =
    let params = Words name ∷ Int (pos serial) ∷ [] in
    subst (λ ns. ShowGreatest ns rows) (places_before name serial b.landings)
    (listed_greatest landing_columns 14 before_test (col 1 2) params (λ (l : QueueLanding). same_name l.queue name && nat_lt l.row.landing.serial serial)
    (λ v l is. told_behind (passes before_test (Words name ∷ Int (pos serial) ∷ [])) v _ _ (same_name l.queue name && nat_lt l.row.landing.serial serial)
    (λ w. rw (equal_texts l.queue name, below_number l.row.landing.serial serial, and_true (nat_lt l.row.landing.serial serial))) is)
    (λ l. l.row.place)
    (λ v l is. told_behind (λ v. eval (col 1 2) ((Words name ∷ Int (pos serial) ∷ []) ∷ v ∷ [])) v _ _ (Int (pos l.row.place)) (λ w. refl) is)
    (overlay s.now.trees []) b.landings rows shows.stands.landing
    (answers s before_sql before_query (codes "n" ∷ []) params rows before_asks shows.schema_is finds))

-- ---- the last report

-- its place
pub report_found : (s : State) (b : Stored) (name : List ℕ) (rows : List Row) → IsStoredIn s b → Finds report_sql (Words name ∷ []) s.now rows
    → ShowGreatest (map (λ (r : ReportRow). r.place) (reports_of name b.reports)) rows
report_found s b name rows shows finds =
    let params = Words name ∷ [] in
    subst (λ ns. ShowGreatest ns rows) (sym (map-map (λ (r : ReportRow). r.place) (λ (l : QueueReport). l.row) _))
    (listed_greatest report_columns 18 (key_is 1 ∷ []) (col 1 2) params (λ (l : QueueReport). same_name l.queue name)
    (λ v l is. told_behind (passes (key_is 1 ∷ []) (Words name ∷ [])) v _ _ (same_name l.queue name) (λ w. rw equal_texts (and_true (same_name l.queue name))) is)
    (λ l. l.row.place)
    (λ v l is. told_behind (λ v. eval (col 1 2) ((Words name ∷ []) ∷ v ∷ [])) v _ _ (Int (pos l.row.place)) (λ w. refl) is)
    (overlay s.now.trees []) b.reports rows shows.stands.report
    (answers s report_sql report_query (codes "place" ∷ []) params rows report_asks shows.schema_is finds))

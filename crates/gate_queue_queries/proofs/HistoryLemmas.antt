-- How a history text is written, line by line.
use Rattle.std.proofs.Common.{◌≡◌, ◌≢◌, ◌<◌, ◌+◌, ℕ, zero, suc, List, [], ◌∷◌, ◌++◌, Option, Ok, Err, Result}
use Rattle.std.proofs.Common.{take, drop, length, codes, decimal, refl, sym, ap, subst, ◌∙◌, arith, append_assoc}
use Rattle.std.proofs.Common.{length-append, IsTrue}
use Rattle.std.specs.Prelude.{flat_map, MatchResult}
use Rattle.std.specs.List.{enumerate_from}
use Rattle.std.proofs.KnownBytes.{Appends-trans}
use Rattle.sqlite.specs.Listing.{reads_listing, understood}
use Rattle.sqlite.specs.Schema.{Schema}
use Rattle.sqlite.specs.State.{State}
use Rattle.sqlite.specs.declared.types.Value.TheVariants.{Text as Words}
use Rattle.gate_types.proofs.TapLemmas.{writes_later, writes_sooner}
use Rattle.gate_types.specs.History.{report_row}
use Rattle.gate_types.specs.Tap.{Took, TookFront}
use Rattle.gate_types.specs.declared.records.Report.{Report}
use Rattle.gate_types.specs.declared.tap.Tap.{Tap}
use Rattle.gate_book_trait.specs.Text.{BreaksOffHistory, first_line, closing_line}
use Rattle.gate_book_trait.specs.declared.fault.HistoryFault.{HistoryFault}
use Rattle.gate_book_trait.specs.declared.fault.HistoryFault.TheVariants as fault
use Rattle.gate_schema.specs.Rows.{Stored}
use Rattle.gate_schema.specs.Schema.{gate_schema}
use Rattle.gate_found_rows.specs.Finds.{IsPlainQuery, OnlyReads}
use Rattle.gate_found_rows.specs.Reads.{IsStoredIn}
use Rattle.gate_found_rows.proofs.SilentLemmas.{plain_only_reads}
use Rattle.gate_queue_queries.specs.History.{HoldsReports, LeavesReports, OfReports, CutsText, WritesHistoryPart}
use Rattle.gate_queue_queries.specs.History.{WritesReports, WritesWhole, history_sql, report_shown, reports_text}
use Rattle.gate_queue_queries.specs.Streamed.{CutsReportLines, StreamsRows, WritesReportLines, body, line_from, lines_of_records}
use Rattle.gate_queue_queries.proofs.ReportReads.{history_asks, history_names, history_query, reports_found}
use Rattle.gate_queue_queries.proofs.StreamLemmas.{WritesSome, lines_more, query_of, some_front, whole_front}

-- ---- what a writer took

-- a late fault leaves a beginning of a text
pub cuts_late : {W : Type 0} (held : W → Option (List ℕ)) (old new : Tap W) (text : List ℕ) (f : HistoryFault) → BreaksOffHistory new f → TookFront held old new text → CutsText held old new text f
cuts_late held old new text fault.NoQueue h cut = absurd h
cuts_late held old new text fault.Unavailable h cut = absurd h
cuts_late held old new text fault.Broken h cut = cut
cuts_late held old new text fault.Write h cut = cut

-- the front is written, and the first line behind it
pub written_head : {W : Type 0} (held : W → Option (List ℕ)) (old mid new : Tap W) (front line : List ℕ) (result : Result (Unit {0}) HistoryFault) → Took held old mid front → WritesHistoryPart held mid new line result
    → WritesWhole held old new (front ++ line) result
written_head held old mid new front line (Ok x) took it = Appends-trans _ _ _ _ _ took it.taken
written_head held old mid new front line (Err f) took it = cuts_late held old new (front ++ line) f it.stops (writes_later _ _ _ front line took it.taken)

-- ---- lines that are cut

-- a fault in the head leaves nothing or a beginning
pub leaves_head : {W : Type 0} (held : W → Option (List ℕ)) (old new : Tap W) (head rest : List ℕ) (f : HistoryFault) → CutsText held old new head f → CutsReportLines held old new (head ++ rest) f
leaves_head held old new head rest fault.NoQueue h = absurd h
leaves_head held old new head rest fault.Unavailable h = tt
leaves_head held old new head rest fault.Broken h = λ more some. writes_sooner _ _ (head ++ rest) more (writes_sooner _ _ head rest h)
leaves_head held old new head rest fault.Write h = λ more some. writes_sooner _ _ (head ++ rest) more (writes_sooner _ _ head rest h)

-- and so does one in a line, or behind it
pub cut_within : {W : Type 0} (held : W → Option (List ℕ)) (old new : Tap W) (text : List ℕ) (f : HistoryFault) → BreaksOffHistory new f → WritesSome (held old.inner) (held new.inner) text → CutsReportLines held old new text f
cut_within held old new text fault.NoQueue h cut = absurd h
cut_within held old new text fault.Unavailable h cut = absurd h
cut_within held old new text fault.Broken h cut = λ more some. some_front _ _ text more some cut
cut_within held old new text fault.Write h cut = λ more some. some_front _ _ text more some cut

-- the last line is none without a byte
pub last_some : (count : ℕ) → 0 < length (closing_line count)
last_some count = omega (arith, length-append (codes "end" ++ 32 ∷ decimal count) (10 ∷ []))

-- where the connection was open, it was so whatever is answered
pub opened_so : {X : Type 0} (s : State) (result : Result X HistoryFault) → IsTrue s.is_open → MatchResult result (λ _. IsTrue s.is_open) (λ f. f ≢ fault.Unavailable → IsTrue s.is_open)
opened_so s (Ok x) up = up
opened_so s (Err f) up = λ _. up

-- ---- the text of all reports

-- the lines are those of the places
pub lines_are : (first n : ℕ) (rs : List Report) → lines_of_records (line_from first) n rs ≡ flat_map report_row (enumerate_from (first + n) rs)
lines_are first n [] = refl
lines_are first n (r ∷ rs) =
    let e : first + (n + 1) ≡ first + n + 1 = omega arith in
    ap (λ l. report_row (first + n, r) ++ l) (lines_are first (n + 1) rs ∙ ap (λ m. flat_map report_row (enumerate_from m rs)) e)

-- the first of a list, and those behind them
parts : {X : Type 0} (most : ℕ) (xs : List X) → take most xs ++ drop most xs ≡ xs
parts zero xs = refl
parts (suc n) [] = refl
parts (suc n) (x ∷ xs) = ap (λ l. x ∷ l) (parts n xs)

-- where fewer are taken than may be, all are
all_taken : {X : Type 0} (most : ℕ) (xs : List X) → length (take most xs) < most → take most xs ≡ xs
all_taken zero xs few = absurd (omega (arith, few))
all_taken (suc n) [] few = refl
all_taken (suc n) (x ∷ xs) few = ap (λ l. x ∷ l) (all_taken n xs (omega (arith, few)))

-- with the last line the lines of all are the text
text_is : (front name : List ℕ) (rs : List Report) → ((front ++ first_line name) ++ lines_of_records (line_from 1) 0 rs) ++ closing_line (length rs) ≡ front ++ reports_text name rs
text_is front name rs =
    append_assoc (front ++ first_line name) (lines_of_records (line_from 1) 0 rs) (closing_line (length rs)) ∙ append_assoc front (first_line name) _
    ∙ ap (λ l. front ++ (first_line name ++ (l ++ closing_line (length rs)))) (lines_are 1 0 rs)

-- so it is where fewer were taken than may be
text_whole : (front name : List ℕ) (most count : ℕ) (rs : List Report) → count < most → count ≡ length (take most rs) →
    body (front ++ first_line name) (line_from 1) most rs ++ closing_line count ≡ front ++ reports_text name rs
text_whole front name most count rs few counted =
    let all : take most rs ≡ rs = all_taken most rs (omega (arith, few, counted)) in
    ap (λ l. ((front ++ first_line name) ++ lines_of_records (line_from 1) 0 l) ++ closing_line count) all
    ∙ ap (λ n. ((front ++ first_line name) ++ lines_of_records (line_from 1) 0 rs) ++ closing_line n) (counted ∙ ap (λ (l : List Report). length l) all) ∙ text_is front name rs

-- what is behind the first of them
text_cut : (front name : List ℕ) (most : ℕ) (rs : List Report) → body (front ++ first_line name) (line_from 1) most rs ++ (lines_of_records (line_from 1) (0 + length (take most rs)) (drop most rs) ++ closing_line (length rs))
    ≡ front ++ reports_text name rs
text_cut front name most rs =
    sym (append_assoc (body (front ++ first_line name) (line_from 1) most rs) (lines_of_records (line_from 1) (0 + length (take most rs)) (drop most rs)) (closing_line (length rs)))
    ∙ ap (λ l. l ++ closing_line (length rs)) (append_assoc (front ++ first_line name) (lines_of_records (line_from 1) 0 (take most rs)) _
    ∙ ap (λ l. (front ++ first_line name) ++ l) (sym (lines_more (line_from 1) 0 (take most rs) (drop most rs)) ∙ ap (lines_of_records (line_from 1) 0) (parts most rs)))
    ∙ text_is front name rs

-- a beginning of any longer text is one of the history text
beginning : {W : Type 0} (held : W → Option (List ℕ)) (old new : Tap W) (front name : List ℕ) (most : ℕ) (rs : List Report)
    → ((rest : List ℕ) → 0 < length rest → TookFront held old new (body (front ++ first_line name) (line_from 1) most rs ++ rest)) → TookFront held old new (front ++ reports_text name rs)
beginning held old new front name most rs cut =
    let behind = lines_of_records (line_from 1) (0 + length (take most rs)) (drop most rs) in
    let some = last_some (length rs) in
    subst (TookFront held old new) (text_cut front name most rs)
    (cut (behind ++ closing_line (length rs)) (omega (arith, some, length-append behind (closing_line (length rs)))))

-- ---- what is written of the reports in the tables

-- the query's text is plain on the gate's schema, and shows the reports
pub history_streams : (s : State) (b : Stored) (name : List ℕ) (rs : List Report) → IsStoredIn s b → HoldsReports b name rs → StreamsRows history_sql (Words name ∷ []) s report_shown rs
history_streams s b name rs shown holds = record {
  query = history_query;
  names = history_names;
  plain = subst (λ (t : Schema). IsPlainQuery (understood t history_sql) history_query history_names) (sym shown.schema_is) (query_of (understood gate_schema history_sql) history_query history_names history_asks.0.0 history_asks.0.1);
  unlisted = ap (λ (t : Schema). reads_listing t history_sql) shown.schema_is ∙ history_asks.1;
  found = λ rows finds. reports_found s b name rs rows shown holds finds;
}

-- and only reads, whatever the tables are
pub history_reads : OnlyReads history_sql
history_reads = plain_only_reads gate_schema history_sql history_asks.0.1

module _ {W : Type 0} (s : State) (name front : List ℕ) (held : W → Option (List ℕ)) (old : Tap W) where
  -- what is said of the lines of all reports
  abbrev pub Lines : ℕ → Tap W → Result ℕ HistoryFault → Type 0
  Lines most new result = (b : Stored) → IsStoredIn s b → (rs : List Report) → HoldsReports b name rs → WritesReportLines held old new (front ++ first_line name) 1 most rs result

  -- where they are cut, so is the text
  pub cut_lines : (most : ℕ) (new : Tap W) (f : HistoryFault) → (f ≢ fault.Unavailable → IsTrue s.is_open) → Lines most new (Err f) → LeavesReports s name front held old new f
  cut_lines most new fault.NoQueue up cut = record { was_open = up (λ e. cc); taken = cut }
  cut_lines most new fault.Unavailable up cut = tt
  cut_lines most new fault.Broken up cut = record { was_open = up (λ e. cc); taken = λ b shown rs holds. beginning held old new front name most rs (cut b shown rs holds) }
  cut_lines most new fault.Write up cut = record { was_open = up (λ e. cc); taken = λ b shown rs holds. beginning held old new front name most rs (cut b shown rs holds) }

  -- and where they may not be all
  pub stops_short : (most : ℕ) (new : Tap W) (count : ℕ) → IsTrue s.is_open → Lines most new (Ok count) → OfReports s name front (TookFront held old new)
  stops_short most new count up lines_of_records = record {
    was_open = up;
    taken = λ b shown rs holds. beginning held old new front name most rs
        (λ rest some. whole_front _ _ (body (front ++ first_line name) (line_from 1) most rs) rest some (lines_of_records b shown rs holds).0);
  }

  -- the last line is written behind them, or a beginning of it
  pub written_last : (most : ℕ) (mid new : Tap W) (count : ℕ) (result : Result (Unit {0}) HistoryFault) → count < most → IsTrue s.is_open → Lines most mid (Ok count) → WritesHistoryPart held mid new (closing_line count) result
      → WritesReports s name front held old new result
  written_last most mid new count (Ok x) few up lines_of_records it = record {
    was_open = up;
    taken = λ b shown rs holds.
        let all = lines_of_records b shown rs holds in
        subst (Took held old new) (text_whole front name most count rs few all.1) (Appends-trans _ _ _ _ _ all.0 it.taken);
  }
  written_last most mid new count (Err f) few up lines_of_records it =
      leaves_late f it.stops (record {
        was_open = up;
        taken = λ b shown rs holds.
            let all = lines_of_records b shown rs holds in
            subst (TookFront held old new) (text_whole front name most count rs few all.1) (writes_later _ _ _ _ _ all.0 it.taken);
      })
    where
      leaves_late : (f : HistoryFault) → BreaksOffHistory new f → OfReports s name front (TookFront held old new) → LeavesReports s name front held old new f
      leaves_late fault.NoQueue h cut = absurd h
      leaves_late fault.Unavailable h cut = absurd h
      leaves_late fault.Broken h cut = cut
      leaves_late fault.Write h cut = cut

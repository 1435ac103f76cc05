-- What is read of the reports of a queue one row at a time, and what is written of it.
use Rattle.std.specs.Prelude.{◌≡◌, ◌++◌, ⊤, ℕ, pos, IsTrue, List, [], ◌∷◌, codes, flat_map, length, IsPermutation}
use Rattle.std.specs.Prelude.{Option, Result, MatchResult}
use Rattle.std.specs.List.{enumerate_from}
use Rattle.sqlite.specs.Order.{Row}
use Rattle.sqlite.specs.State.{State}
use Rattle.sqlite.specs.declared.types.Value.TheVariants.{Int, Text as Words}
use Rattle.gate_types.specs.History.{report_row, verdict_word, landing_place}
use Rattle.gate_types.specs.Rows.{numbered_reports}
use Rattle.gate_types.specs.Tap.{Took, TookFront}
use Rattle.gate_types.specs.declared.records.Report.{Report}
use Rattle.gate_types.specs.declared.tap.Tap.{Tap}
use Rattle.gate_book_trait.specs.Text.{IsWritten, LeavesTap, first_line, closing_line}
use Rattle.gate_book_trait.specs.declared.fault.HistoryFault.{HistoryFault}
use Rattle.gate_book_trait.specs.declared.fault.HistoryFault.TheVariants as fault
use Rattle.gate_rows.specs.Matches.{reports_of}
use Rattle.gate_schema.specs.Rows.{Stored, number_or_null}
use Rattle.gate_found_rows.specs.Reads.{IsStoredIn}

-- ---- the rows

-- the query that reads the reports of a queue
abbrev pub history_sql : List ℕ
history_sql = codes "SELECT serial, change, revision, verdict, n FROM report WHERE queue = ?1 ORDER BY place"

-- the columns of a report, without its queue and its place
abbrev pub report_shown : Report → Row
report_shown r =
    Int (pos r.serial) ∷ Int (pos r.change) ∷ Int (pos r.revision) ∷ Words (verdict_word r.verdict) ∷
    number_or_null (landing_place r.verdict) ∷ []

-- while the connection answers, it shows what is committed
abbrev pub ShowsCommitted : State → Type 0
ShowsCommitted s = IsTrue s.is_open → s.now ≡ s.committed

-- ---- the text

-- the lines of reports, the first at a place
abbrev pub lines_from : ℕ → List Report → List ℕ
lines_from place rs = flat_map report_row (enumerate_from place rs)

-- the history text of a queue of this name with these reports
abbrev pub reports_text : List ℕ → List Report → List ℕ
reports_text name rs = first_line name ++ (lines_from 1 rs ++ closing_line (length rs))

-- ---- what is written

-- the tables hold these reports of the queue, the first at place 1
abbrev pub HoldsReports : Stored → List ℕ → List Report → Type 0
HoldsReports b name rs = IsPermutation (reports_of name b.reports) (numbered_reports 0 rs)

-- the connection was open, and the writer took bytes of the front and the text of the reports in its tables
pub record OfReports (s : State) (name front : List ℕ) (Takes : List ℕ → Type 0) : Type 0 where
  pub was_open : IsTrue s.is_open
  pub taken : (b : Stored) → IsStoredIn s b → (rs : List Report) → HoldsReports b name rs →
      Takes (front ++ reports_text name rs)

-- why it was not written whole: the first row could not be read, or a beginning was written
abbrev pub LeavesReports : {W : Type 0} → State → List ℕ → List ℕ → (W → Option (List ℕ)) → Tap W → Tap W →
    HistoryFault → Type 0
LeavesReports s name front held old new fault.NoQueue = OfReports s name front (λ _. ⊥)
LeavesReports s name front held old new fault.Unavailable = ⊤
LeavesReports s name front held old new _ = OfReports s name front (TookFront held old new)

-- the front and the text are written, or why not
abbrev pub WritesReports : {W : Type 0} → State → List ℕ → List ℕ → (W → Option (List ℕ)) → Tap W → Tap W →
    Result (Unit {0}) HistoryFault → Type 0
WritesReports s name front held old new result =
    MatchResult result (λ _. OfReports s name front (Took held old new)) (LeavesReports s name front held old new)

-- a part behind the first byte is written, or a beginning of it, and a fault leaves the writer so
pub record WritesHistoryPart {W : Type 0} (held : W → Option (List ℕ)) (old new : Tap W) (text : List ℕ)
    (result : Result (Unit {0}) HistoryFault) : Type 0 where
  pub taken : IsWritten held old new text result
  pub stops : LeavesTap new result

-- why a text was not written whole: the first row could not be read, or a beginning was written
abbrev pub CutsText : {W : Type 0} → (W → Option (List ℕ)) → Tap W → Tap W → List ℕ → HistoryFault → Type 0
CutsText held old new text fault.NoQueue = ⊥
CutsText held old new text fault.Unavailable = ⊤
CutsText held old new text _ = TookFront held old new text

-- a text is written, or why not
abbrev pub WritesWhole : {W : Type 0} → (W → Option (List ℕ)) → Tap W → Tap W → List ℕ →
    Result (Unit {0}) HistoryFault → Type 0
WritesWhole held old new text result = MatchResult result (λ _. Took held old new text) (CutsText held old new text)

-- The history text of a queue's rows, and its writing part by part.
use Rattle.std.specs.Prelude.{ℕ, ◌≡◌, true, false, List, [], ◌∷◌, ◌++◌, length, Option, codes, decimal, flat_map}
use Rattle.std.specs.Prelude.{Result, MatchResult}
use Rattle.gate_types.specs.Columns.{row}
use Rattle.gate_types.specs.History.{report_row}
use Rattle.gate_types.specs.Tap.{has_failed, Took, TookFront}
use Rattle.gate_types.specs.declared.rows.ReportRow.{ReportRow}
use Rattle.gate_types.specs.declared.tap.Tap.{Tap}
use Rattle.gate_book_trait.specs.declared.fault.HistoryFault.{HistoryFault}
use Rattle.gate_book_trait.specs.declared.fault.HistoryFault.TheVariants as fault

-- the first line
abbrev pub first_line : List ℕ → List ℕ
first_line name = row (codes "history" ∷ name ∷ [])

-- the lines of reports
abbrev pub report_lines : List ReportRow → List ℕ
report_lines rows = flat_map (λ r. report_row (r.place, r.report)) rows

-- the last line
abbrev pub closing_line : ℕ → List ℕ
closing_line count = row (codes "end" ∷ decimal count ∷ [])

-- the whole text
abbrev pub rows_text : List ℕ → List ReportRow → List ℕ
rows_text name rows = first_line name ++ (report_lines rows ++ closing_line (length rows))

-- it was written, or a beginning where a fault came
abbrev pub IsWritten : {W : Type 0} → (W → Option (List ℕ)) → Tap W → Tap W → List ℕ → Result (Unit {0}) HistoryFault →
    Type 0
IsWritten held old new text result =
    MatchResult result (λ _. Took held old new text) (λ _. TookFront held old new text)

-- what a fault leaves of the writer once something was written
abbrev pub BreaksOffHistory : {W : Type 0} → Tap W → HistoryFault → Type 0
BreaksOffHistory new fault.NoQueue = ⊥
BreaksOffHistory new fault.Unavailable = ⊥
BreaksOffHistory new fault.Broken = has_failed new ≡ false
BreaksOffHistory new fault.Write = has_failed new ≡ true

-- the writer has not failed, or is left by a fault so
abbrev pub LeavesTap : {W : Type 0} → Tap W → Result (Unit {0}) HistoryFault → Type 0
LeavesTap new result = MatchResult result (λ _. has_failed new ≡ false) (BreaksOffHistory new)

-- nothing is written, or a beginning
abbrev pub LeavesText : {W : Type 0} → (W → Option (List ℕ)) → Tap W → Tap W → List ℕ → HistoryFault → Type 0
LeavesText held old new text fault.NoQueue = ⊥
LeavesText held old new text fault.Unavailable = new ≡ old
LeavesText held old new text fault.Broken = TookFront held old new text × (has_failed new ≡ false)
LeavesText held old new text fault.Write = TookFront held old new text × (has_failed new ≡ true)

-- the front and the text are written, or what a fault leaves
abbrev pub WritesText : {W : Type 0} → (W → Option (List ℕ)) → Tap W → Tap W → List ℕ → Result (Unit {0}) HistoryFault →
    Type 0
WritesText held old new text result =
    MatchResult result (λ _. Took held old new text × (has_failed new ≡ false)) (LeavesText held old new text)

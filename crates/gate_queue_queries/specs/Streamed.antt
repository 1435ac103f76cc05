-- What is read of a query one row at a time, and what is written of it.
use Rattle.std.specs.Prelude.{◌≡◌, ◌≢◌, ◌<◌, ◌++◌, ⊤, ℕ, ◌+◌, IsTrue, List, [], ◌∷◌, length, map, take, false}
use Rattle.std.specs.Prelude.{Option, Some, None, Result, MatchResult}
use Rattle.sqlite.specs.Given.{HasGiven}
use Rattle.sqlite.specs.Held.{Held, state}
use Rattle.sqlite.specs.Listing.{understood, reads_listing}
use Rattle.sqlite.specs.Order.{Row}
use Rattle.sqlite.specs.Query.{Query}
use Rattle.sqlite.specs.State.{HasCleanDisk, Shown, State}
use Rattle.sqlite_trees.specs.declared.store.Store.{Ghosts}
use Rattle.gate_types.specs.History.{report_row}
use Rattle.gate_types.specs.Tap.{has_failed, Took, TookFront}
use Rattle.gate_types.specs.declared.records.Report.{Report}
use Rattle.gate_types.specs.declared.tap.Tap.{Tap}
use Rattle.gate_book_trait.specs.Writes.{StopsWriterBy}
use Rattle.gate_book_trait.specs.declared.fault.HistoryFault.{HistoryFault}
use Rattle.gate_book_trait.specs.declared.fault.HistoryFault.TheVariants as fault
use Rattle.gate_found_rows.specs.Finds.{Finds, IsPlainQuery}

-- a record was read of one more row, or the rows so far are the answer
abbrev pub ReadsOn : {S X : Type 0} → Ghosts S → List ℕ → Row → (X → Row) → Held S → Held S → List Row →
    Option X → Type 0
ReadsOn g sql params shown old new given (Some x) =
    (row : Row) × HasGiven g sql params new (given ++ row ∷ []) × ((y : _) → row ≡ shown y → x ≡ y)
ReadsOn g sql params shown old new given None = Shown sql params (state g old) (state g new) given

-- of the tables as they are, the text is a plain query, and its rows show these records
pub record StreamsRows {X : Type 0} (sql : List ℕ) (params : Row) (s : State) (shown : X → Row) (xs : List X) :
    Type 0 where
  pub query : Query
  pub names : List (List ℕ)
  pub plain : IsPlainQuery (understood s.now.schema sql) query names
  pub unlisted : reads_listing s.now.schema sql ≡ false
  pub found : (rows : List Row) → Finds sql params s.now rows → rows ≡ map shown xs

-- the lines of records, the first of which is the nth
abbrev pub lines_of_records : {X : Type 0} → (ℕ → X → List ℕ) → ℕ → List X → List ℕ
lines_of_records line n [] = []
lines_of_records line n (x ∷ xs) = line n x ++ lines_of_records line (n + 1) xs

-- a head, and the lines of at most so many records behind it
abbrev pub body : {X : Type 0} → List ℕ → (ℕ → X → List ℕ) → ℕ → List X → List ℕ
body head line most xs = head ++ lines_of_records line 0 (take most xs)

-- ---- lines of reports

-- the line of a report that follows so many others, where the first stands at a place
abbrev pub line_from : ℕ → ℕ → Report → List ℕ
line_from first n r = report_row (first + n, r)

-- why lines were not written whole: the first row could not be read, or a beginning of any longer text was written
abbrev pub CutsReportLines : {W : Type 0} → (W → Option (List ℕ)) → Tap W → Tap W → List ℕ → HistoryFault → Type 0
CutsReportLines held old new text fault.NoQueue = ⊥
CutsReportLines held old new text fault.Unavailable = ⊤
CutsReportLines held old new text _ = (rest : List ℕ) → 0 < length rest → TookFront held old new (text ++ rest)

-- a head and the lines of at most so many reports are written, and how many these are is told; or why not
abbrev pub WritesReportLines : {W : Type 0} → (W → Option (List ℕ)) → Tap W → Tap W → List ℕ → ℕ → ℕ → List Report →
    Result ℕ HistoryFault → Type 0
WritesReportLines held old new head first most rs result =
    MatchResult result
    (λ n. Took held old new (body head (line_from first) most rs) × (n ≡ length (take most rs)))
    (CutsReportLines held old new (body head (line_from first) most rs))

-- the writer has not failed where they are written, or is left by a fault so
abbrev pub StopsReports : {W : Type 0} → Tap W → Tap W → Result ℕ HistoryFault → Type 0
StopsReports old new result = MatchResult result (λ _. has_failed new ≡ false) (StopsWriterBy old new)

-- a call that wrote, or was to write, found the connection open
abbrev pub OpenedHistory : {X : Type 0} → State → State → Result X HistoryFault → Type 0
OpenedHistory old new result =
    HasCleanDisk new → MatchResult result (λ _. IsTrue old.is_open) (λ f. f ≢ fault.Unavailable → IsTrue old.is_open)

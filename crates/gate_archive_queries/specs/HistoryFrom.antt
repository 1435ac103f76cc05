-- What is written of a queue's reports from a place on.
use Rattle.std.specs.Prelude.{◌≤◌, ◌++◌, ◌-◌, ℕ, List, codes, drop, flat_map, length, take, IsPermutation}
use Rattle.std.specs.List.{enumerate_from}
use Rattle.gate_types.specs.History.{report_row}
use Rattle.gate_types.specs.Rows.{numbered_reports}
use Rattle.gate_types.specs.declared.records.Report.{Report}
use Rattle.gate_book_trait.specs.Text.{first_line, closing_line}
use Rattle.gate_rows.specs.Matches.{reports_of}
use Rattle.gate_schema.specs.Rows.{Stored}
use Rattle.gate_types.specs.Counters.{last_number}
use Rattle.gate_types.specs.Limits.{most_listed}

-- the query that reads the reports of a queue from a place on
abbrev pub history_from_sql : List ℕ
history_from_sql =
    codes "SELECT serial, change, revision, verdict, n FROM report WHERE queue = ?1 AND place >= ?2 ORDER BY place"

-- the tables hold these reports of the queue, the first at place 1, and no more than serials may be drawn
abbrev pub HoldsDrawnReports : Stored → List ℕ → List Report → Type 0
HoldsDrawnReports b name rs =
    IsPermutation (reports_of name b.reports) (numbered_reports 0 rs) × (length rs ≤ last_number)

-- the history text of a queue of this name from a place on, of all its reports
abbrev pub text_from : List ℕ → ℕ → List Report → List ℕ
text_from name from rs =
    first_line name
    ++ (flat_map report_row (take most_listed (drop (from - 1) (enumerate_from 1 rs))) ++ closing_line (length rs))

-- How a book in memory keeps the reports of a queue: by place, beside an index of them by serial.
use Rattle.std.specs.Prelude.{ℕ, Bool, ◌==◌, ◌≤◌, ◌+◌, List, vec_len, vec_capacity}
use Rattle.std.specs.List.{AllByRecursion}
use Rattle.gate_types.specs.declared.rows.ReportRow.{ReportRow}
use Rattle.gate_types.specs.Keys.{place_of_report}
use Rattle.gate_types.specs.Rising.{RisesFrom, In}
use Rattle.gate_memory.specs.Pairs.{pair_key, IsFit}
use Rattle.gate_memory.specs.declared.pairs.Pair.{Pair}
use Rattle.gate_memory.specs.declared.reports.ReportTable.{ReportTable}

-- a report of a serial
abbrev pub is_of_serial : ℕ → ReportRow → Bool
is_of_serial n r = r.report.serial == n

-- what the index keeps of a report
abbrev pub indexed_report : ReportRow → Pair
indexed_report r = record { first = r.report.serial; second = r.place }

-- each report stands in the index
abbrev pub TellsReports : List Pair → List ReportRow → Type 0
TellsReports entries rows = AllByRecursion (λ r. In (indexed_report r) entries) rows

-- both lists rise, and the index has each report
pub record IsKeptReportTable (t : ReportTable) : Type 0 where
  pub rows_rise : RisesFrom place_of_report 0 t.rows.items
  pub entries_rise : RisesFrom pair_key 0 t.entries.items
  pub entries_fit : AllByRecursion IsFit t.entries.items
  pub reports_told : TellsReports t.entries.items t.rows.items

-- room for n more
pub record HasRoomForReports (n : ℕ) (t : ReportTable) : Type 0 where
  pub rows : vec_len t.rows + n ≤ vec_capacity t.rows
  pub entries : vec_len t.entries + n ≤ vec_capacity t.entries

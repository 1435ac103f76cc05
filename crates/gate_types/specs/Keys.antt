-- The numbers in whose order rows are kept.
use Rattle.std.specs.Prelude.{ℕ}
use Rattle.gate_types.specs.declared.records.Item.{Item}
use Rattle.gate_types.specs.declared.records.Plan.{Plan}
use Rattle.gate_types.specs.declared.rows.ChangeRow.{ChangeRow}
use Rattle.gate_types.specs.declared.rows.LandingRow.{LandingRow}
use Rattle.gate_types.specs.declared.rows.ReportRow.{ReportRow}

-- the number of a change
abbrev pub number_of_change : ChangeRow → ℕ
number_of_change r = r.change.number

-- the serial of an item
abbrev pub serial_of_item : Item → ℕ
serial_of_item i = i.serial

-- the serial of a plan
abbrev pub serial_of_plan : Plan → ℕ
serial_of_plan p = p.serial

-- the place of a landing
abbrev pub place_of_landing : LandingRow → ℕ
place_of_landing r = r.place

-- the place of a report
abbrev pub place_of_report : ReportRow → ℕ
place_of_report r = r.place

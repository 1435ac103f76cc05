-- The history text of a queue from a place on.
use Rattle.std.specs.Prelude.{ℕ, ◌-◌, List, [], ◌∷◌, ◌++◌, length, take, drop, flat_map, codes, decimal}
use Rattle.std.specs.List.{enumerate_from}
use Rattle.gate_types.specs.State.{Queue}
use Rattle.gate_types.specs.Columns.{row}
use Rattle.gate_types.specs.History.{report_row}
use Rattle.gate_types.specs.Limits.{most_listed}

-- the first line, at most 1,000 reports from a place on, and the last line with the number of all reports
abbrev pub history_from : ℕ → Queue → List ℕ
history_from from q =
    row (codes "history" ∷ q.name ∷ [])
    ++ (flat_map report_row (take most_listed (drop (from - 1) (enumerate_from 1 q.reports)))
    ++ row (codes "end" ∷ decimal (length q.reports) ∷ []))

use Rattle.std.proofs.Common.{◌≡◌, take, []}
use Rattle.std.specs.List.{filter_map}
use Rattle.gate_types.specs.Keys.{place_of_report}
use Rattle.gate_memory.specs.Sorted.{passing_at}
use Rattle.gate_memory.specs.Reports.{is_of_serial}
use Rattle.gate_memory.proofs.reports.first_report.Given as goal

abbrev pub invariant-loop-entry : goal.invariant-loop-entry
invariant-loop-entry l = filter_map (λ p. passing_at place_of_report (is_of_serial l.fn.serial) l.rows p.second) (take l.entry-index l.entries) ≡ []

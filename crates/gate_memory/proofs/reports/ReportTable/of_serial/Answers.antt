use Rattle.std.proofs.Common.{◌≡◌, ◌∙◌, ap, arith}
use Rattle.std.specs.Prelude.{◌==◌, Option, filter}
use Rattle.std.specs.List.{filter_map}
use Rattle.std.specs.Option.{option_copied}
use Rattle.gate_types.specs.declared.rows.ReportRow.{ReportRow}
use Rattle.gate_types.specs.Keys.{place_of_report}
use Rattle.gate_memory.specs.declared.pairs.Pair.{Pair}
use Rattle.gate_memory.specs.Sorted.{passing_at, first_of}
use Rattle.gate_memory.specs.Reports.{is_of_serial}
use Rattle.gate_memory.proofs.CollectLemmas.{collected}
use Rattle.gate_memory.proofs.PairLemmas.{seconds_rise, seconds_of, filter_map_seconds}
use Rattle.gate_memory.proofs.QueueLemmas.{find_first}
use Rattle.gate_memory.proofs.ReportLemmas.{reports_are_told}
use Rattle.gate_memory.proofs.reports.ReportTable.of_serial.Goals as goal

pub returns : goal.returns
returns c =
    let n = c.args.serial in
    let rows = c.args.self.now.rows.items in
    let entries = c.args.self.now.entries.items in
    let test = is_of_serial n in
    let pairs : c.of_first.result.now ≡ filter (λ (p : Pair). p.first == n) entries = rw (c.get.ensures.value, c.deref-2.ensures.value) at c.of_first.ensures in
    let look : Pair → Option ReportRow = λ p. passing_at place_of_report test rows p.second in
    let found : option_copied c.first_report.result ≡ first_of (filter_map look c.of_first.result.now) = rw c.deref.ensures.value at c.first_report.ensures in
    found
    ∙ ap first_of (ap (filter_map look) pairs ∙ filter_map_seconds (passing_at place_of_report test rows) (filter (λ (p : Pair). p.first == n) entries)
    ∙ collected place_of_report test 0 rows c.requires.rows_rise 0 (seconds_of n entries)
    (seconds_rise n 0 0 entries c.requires.entries_rise (λ q h e. omega arith)) (reports_are_told n entries rows c.requires.reports_told))
    ∙ find_first test rows

use Rattle.std.proofs.Common.{◌≡◌, ◌∙◌, ◌++◌, suc, ◌+◌, [], Option, None, get_or, take, sym, ap, arith}
use Rattle.std.specs.List.{filter_map, cons_option}
use Rattle.gate_types.specs.declared.rows.ReportRow.{ReportRow}
use Rattle.gate_types.specs.Keys.{place_of_report}
use Rattle.gate_memory.specs.declared.pairs.Pair.{Pair}
use Rattle.gate_memory.specs.Sorted.{passing_at}
use Rattle.gate_memory.specs.Reports.{is_of_serial}
use Rattle.gate_memory.proofs.CollectLemmas.{filter_map_next}
use Rattle.gate_memory.proofs.QueueLemmas.{first_found}
use Rattle.gate_memory.proofs.reports.first_report.Goals as goal

pub returns-in-Some : goal.returns-in-Some
returns-in-Some c =
    let look : Pair → Option ReportRow = λ p. passing_at place_of_report (is_of_serial c.args.serial) c.args.rows.now p.second in
    let d : Pair = record { first = 0; second = 0 } in
    sym (first_found look c.args.entries.now c.loop-entry.entry-index d c.in-Some.row.now c.loop-entry-test.true c.loop-entry.invariant (sym c.in-Some.ensures))

pub loop-entry-preserved : goal.loop-entry-preserved
loop-entry-preserved c =
    let look : Pair → Option ReportRow = λ p. passing_at place_of_report (is_of_serial c.args.serial) c.args.rows.now p.second in
    let entries = c.args.entries.now in
    let k = c.loop-entry.entry-index in
    let d : Pair = record { first = 0; second = 0 } in
    let step : suc k ≡ k + 1 = omega arith in
    let none : look (get_or entries k d) ≡ None = sym c.in_default.ensures in
    sym (ap (λ n. filter_map look (take n entries)) step) ∙ filter_map_next look entries k d c.loop-entry-test.true
    ∙ (λ i. c.loop-entry.invariant i ++ cons_option (none i) [])

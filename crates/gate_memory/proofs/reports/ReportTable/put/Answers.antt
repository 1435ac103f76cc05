use Rattle.std.proofs.Common.{◌≡◌}
use Rattle.std.specs.List.{AllByRecursion}
use Rattle.gate_types.specs.State.{put_by}
use Rattle.gate_memory.specs.Pairs.{pair_key, IsFit}
use Rattle.gate_memory.specs.Reports.{TellsReports, indexed_report}
use Rattle.gate_memory.proofs.BuildLemmas.{all_put}
use Rattle.gate_memory.proofs.ReportLemmas.{tells_report_put}
use Rattle.gate_memory.proofs.reports.ReportTable.put.Goals as goal

pub returns-clause-kept : goal.returns-clause-kept
returns-clause-kept c =
    let old = c.args.self.now in
    let kept = c.requires.kept in
    let r = c.args.row in
    let small : IsFit (indexed_report r) = rw c.entry_of.ensures.entry at c.entry_of.ensures.fit in
    let entries : c.put.new.rows.items ≡ put_by pair_key (indexed_report r) old.entries.items = rw c.entry_of.ensures.entry at c.put.ensures.rows in
    let fit : AllByRecursion IsFit c.put.new.rows.items = rw entries (all_put IsFit pair_key (indexed_report r) old.entries.items small kept.entries_fit) in
    let told : TellsReports c.put.new.rows.items c.put-2.new.rows.items =
    rw (entries, c.put-2.ensures.rows) (tells_report_put old.entries.items r old.rows.items kept.entries_fit small kept.reports_told) in
    record { rows_rise = c.put-2.ensures.rising; entries_rise = c.put.ensures.rising; entries_fit = fit; reports_told = told }

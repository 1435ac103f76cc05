use Rattle.std.proofs.Common.{◌≡◌, length, arith}
use Rattle.std.specs.Prelude.{◌-◌, min}
use Rattle.gate_memory.proofs.ReportLemmas.{page_is}
use Rattle.gate_memory.proofs.reports.ReportTable.page.Goals as goal
use Rattle.gate_types.specs.Limits.{most_listed}

pub returns : goal.returns
returns c =
    let rows = c.args.self.now.rows.items in
    let start = c.min-start.result in
    let begun : start ≡ min (c.args.from - 1) (length rows) = omega (arith, c.min-start.ensures, c.saturating_sub.ensures, c.len-count.ensures) in
    let counted : c.min.result ≡ min (length rows - start) most_listed = omega (arith, c.min.ensures, c.len-count.ensures) in
    rw c.deref.ensures.value (page_is rows (c.args.from - 1) most_listed start c.min.result begun counted)

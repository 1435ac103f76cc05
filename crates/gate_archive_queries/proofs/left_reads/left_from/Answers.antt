use Rattle.std.proofs.Common.{◌≡◌, ap, arith, length, rules}
use Rattle.sqlite_value.specs.Order.{column}
use Rattle.gate_found_rows.proofs.ReadLemmas.{not_damaged}
use Rattle.gate_archive_queries.proofs.LeftReads.{left_form}
use Rattle.gate_archive_queries.proofs.left_reads.left_from.Goals as goal

pub returns-in_err-name_in : goal.returns-in_err-name_in
returns-in_err-name_in c l shows form =
    let long : length c.args.row.now ≡ 6 = ap length shows in
    let e = c.in_err-name_in.ensures.err l.queue (ap (λ row. column row 0) shows) (omega arith) (left_form l form).queue in
    let no = not_damaged _ e in
    search rules

pub returns-in_err-serial_in : goal.returns-in_err-serial_in
returns-in_err-serial_in c l shows form =
    absurd (c.in_err-serial_in.ensures.err l.row.report.serial (ap (λ row. column row 1) shows) (left_form l form).serial)

pub returns-in_err-change_in : goal.returns-in_err-change_in
returns-in_err-change_in c l shows form =
    absurd (c.in_err-change_in.ensures.err l.row.report.change (ap (λ row. column row 2) shows) (left_form l form).change)

pub returns-in_err-revision_in : goal.returns-in_err-revision_in
returns-in_err-revision_in c l shows form =
    absurd (c.in_err-revision_in.ensures.err l.row.report.revision (ap (λ row. column row 3) shows) (left_form l form).revision)

use Rattle.std.proofs.Common.{◌≡◌, ap, arith, length, rules}
use Rattle.sqlite_value.specs.Order.{column}
use Rattle.gate_found_rows.proofs.ReadLemmas.{not_damaged}
use Rattle.gate_archive_queries.proofs.BuildReads.{job_form, number_form}
use Rattle.gate_archive_queries.proofs.builds.summary_from.Goals as goal

pub returns-in_err-build_in : goal.returns-in_err-build_in
returns-in_err-build_in c x shows form =
    absurd (c.in_err-build_in.ensures.err x.number (ap (λ row. column row 0) shows) (number_form x form))

pub returns-in_err-name_in : goal.returns-in_err-name_in
returns-in_err-name_in c x shows form =
    let long : length c.args.row.now ≡ 4 = ap length shows in
    let e = c.in_err-name_in.ensures.err x.job (ap (λ row. column row 1) shows) (omega arith) (job_form x form) in
    let no = not_damaged _ e in
    search rules

pub returns-in_err-flag_in : goal.returns-in_err-flag_in
returns-in_err-flag_in c x shows form =
    absurd (c.in_err-flag_in.ensures.err x.live (ap (λ row. column row 3) shows))

pub returns : goal.returns
returns c x shows form =
    rw (
      c.in_ok-build_in.ensures.ok x.number (ap (λ row. column row 0) shows),
      c.in_ok-name_in.ensures.ok x.job (ap (λ row. column row 1) shows),
      c.in_ok-outcome_in.ensures.ok x.outcome (ap (λ row. column row 2) shows),
      c.in_ok-flag_in.ensures.ok x.live (ap (λ row. column row 3) shows),
    )

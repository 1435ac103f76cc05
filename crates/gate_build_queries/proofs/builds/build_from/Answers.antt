use Rattle.std.proofs.Common.{◌≡◌, ap, arith, length, rules}
use Rattle.sqlite_value.specs.Order.{column}
use Rattle.gate_build_queries.proofs.BuildForms.{form_of}
use Rattle.gate_found_rows.proofs.ReadLemmas.{not_damaged}
use Rattle.gate_build_queries.proofs.builds.build_from.Goals as goal

pub returns-in_err-name_in : goal.returns-in_err-name_in
returns-in_err-name_in c x shows form =
    let long : length c.args.row.now ≡ 10 = ap length shows in
    let e = c.in_err-name_in.ensures.err x.queue (ap (λ row. column row 1) shows) (omega arith) (form_of x form).queue in
    let no = not_damaged _ e in
    search rules

pub returns-in_err-serial_in : goal.returns-in_err-serial_in
returns-in_err-serial_in c x shows form =
    absurd (c.in_err-serial_in.ensures.err x.serial (ap (λ row. column row 2) shows) (form_of x form).serial)

pub returns-in_err-change_in : goal.returns-in_err-change_in
returns-in_err-change_in c x shows form =
    absurd (c.in_err-change_in.ensures.err x.change (ap (λ row. column row 3) shows) (form_of x form).change)

pub returns-in_err-revision_in : goal.returns-in_err-revision_in
returns-in_err-revision_in c x shows form =
    absurd (c.in_err-revision_in.ensures.err x.revision (ap (λ row. column row 4) shows) (form_of x form).revision)

pub returns-in_err-name_in-2 : goal.returns-in_err-name_in-2
returns-in_err-name_in-2 c x shows form =
    let long : length c.args.row.now ≡ 10 = ap length shows in
    let e = c.in_err-name_in-2.ensures.err x.job (ap (λ row. column row 5) shows) (omega arith) (form_of x form).job in
    let no = not_damaged _ e in
    search rules

pub returns-in_err-ahead_in : goal.returns-in_err-ahead_in
returns-in_err-ahead_in c x shows form =
    let e = c.in_err-ahead_in.ensures.err x.ahead (ap (λ row. column row 7) shows) (form_of x form).ahead in
    let no = not_damaged _ e in
    search rules

pub returns-in_err-flag_in : goal.returns-in_err-flag_in
returns-in_err-flag_in c x shows form =
    absurd (c.in_err-flag_in.ensures.err x.live (ap (λ row. column row 9) shows))

pub returns : goal.returns
returns c x shows form =
    rw (
      c.in_ok-build_in.ensures.ok x.number (ap (λ row. column row 0) shows),
      c.in_ok-name_in.ensures.ok x.queue (ap (λ row. column row 1) shows),
      c.in_ok-serial_in.ensures.ok x.serial (ap (λ row. column row 2) shows),
      c.in_ok-change_in.ensures.ok x.change (ap (λ row. column row 3) shows),
      c.in_ok-revision_in.ensures.ok x.revision (ap (λ row. column row 4) shows),
      c.in_ok-name_in-2.ensures.ok x.job (ap (λ row. column row 5) shows),
      c.in_ok-number_in.ensures.ok x.after (ap (λ row. column row 6) shows),
      c.in_ok-ahead_in.ensures.ok x.ahead (ap (λ row. column row 7) shows) (form_of x form).ahead,
      c.in_ok-outcome_in.ensures.ok x.outcome (ap (λ row. column row 8) shows),
      c.in_ok-flag_in.ensures.ok x.live (ap (λ row. column row 9) shows),
    )

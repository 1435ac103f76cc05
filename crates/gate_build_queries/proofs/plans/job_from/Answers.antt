use Rattle.std.proofs.Common.{◌≡◌, ap, arith, length, rules}
use Rattle.sqlite_value.specs.Order.{column}
use Rattle.gate_found_rows.proofs.ReadLemmas.{not_damaged}
use Rattle.gate_build_queries.proofs.plans.job_from.Goals as goal

pub returns-in_err-name_in : goal.returns-in_err-name_in
returns-in_err-name_in c j shows form =
    let long : length c.args.row.now ≡ 2 = ap length shows in
    let e = c.in_err-name_in.ensures.err j.name (ap (λ row. column row 0) shows) (omega arith) form in
    let no = not_damaged _ e in
    search rules

pub returns-in_err-flag_in : goal.returns-in_err-flag_in
returns-in_err-flag_in c j shows form =
    absurd (c.in_err-flag_in.ensures.err j.voting (ap (λ row. column row 1) shows))

use Rattle.std.proofs.Common.{◌≡◌, ap, arith, length, rules}
use Rattle.std.proofs.lemmas.Bool.{and_parts}
use Rattle.sqlite_value.specs.Order.{column}
use Rattle.gate_types.specs.Forms.{is_drawn_number}
use Rattle.gate_found_rows.proofs.ReadLemmas.{not_damaged}
use Rattle.gate_build_queries.proofs.item_plans.job_behind.Goals as goal

pub returns-in_err-name_in : goal.returns-in_err-name_in
returns-in_err-name_in c x shows form =
    let long : length c.args.row.now ≡ 3 = ap length shows in
    let e = c.in_err-name_in.ensures.err x.job.name (ap (λ row. column row 1) shows) (omega arith) (and_parts (is_drawn_number x.serial) _ form).1 in
    let no = not_damaged _ e in
    search rules

pub returns-in_err-flag_in : goal.returns-in_err-flag_in
returns-in_err-flag_in c x shows form =
    absurd (c.in_err-flag_in.ensures.err x.job.voting (ap (λ row. column row 2) shows))

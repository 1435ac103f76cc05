use Rattle.std.proofs.Common.{◌≡◌, ap, arith, length, rules}
use Rattle.sqlite_value.specs.Order.{column}
use Rattle.gate_change_queries.proofs.DeliveryReads.{kept_form}
use Rattle.gate_found_rows.proofs.ReadLemmas.{not_damaged}
use Rattle.gate_change_queries.proofs.deliveries.kept_from.Goals as goal

pub returns-in_err-text_in : goal.returns-in_err-text_in
returns-in_err-text_in c k shows own form =
    let long : length c.args.row.now ≡ 2 = ap length shows in
    let e = c.in_err-text_in.ensures.err k.said (ap (λ row. column row 0) shows) (omega arith) (kept_form k form).said in
    let no = not_damaged _ e in
    search rules

pub returns-in_err-text_in-2 : goal.returns-in_err-text_in-2
returns-in_err-text_in-2 c k shows own form =
    let long : length c.args.row.now ≡ 2 = ap length shows in
    let e = c.in_err-text_in-2.ensures.err k.reply (ap (λ row. column row 1) shows) (omega arith) (kept_form k form).reply in
    let no = not_damaged _ e in
    search rules

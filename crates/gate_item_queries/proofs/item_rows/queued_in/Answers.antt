use Rattle.std.proofs.Common.{rules, ◌≡◌, ◌<◌, true, length, ap, arith}
use Rattle.std.proofs.lemmas.Bool.{and_parts}
use Rattle.sqlite_value.specs.Order.{column}
use Rattle.gate_types.specs.Names.{is_name}
use Rattle.gate_found_rows.proofs.ReadLemmas.{not_damaged}
use Rattle.gate_item_queries.proofs.item_rows.queued_in.Goals as goal

pub returns-in_err-name_in : goal.returns-in_err-name_in
returns-in_err-name_in c i shown form =
    let within : 1 < length c.args.row.now = rw shown (omega arith) in
    let named : is_name i.queue ≡ true = (and_parts _ _ (and_parts _ _ form).0).0 in
    let unblamed = not_damaged _ (c.in_err-name_in.ensures.err i.queue (ap (λ r. column r 1) shown) within named) in
    search rules

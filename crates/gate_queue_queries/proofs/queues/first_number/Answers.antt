use Rattle.std.proofs.Common.{ap, arith, slice_index}
use Rattle.sqlite_value.specs.Order.{column}
use Rattle.gate_found_rows.proofs.ShownLemmas.{number_first, surely}
use Rattle.gate_queue_queries.proofs.queues.first_number.Goals as goal

pub returns-in-len1-up : goal.returns-in-len1-up
returns-in-len1-up c ns is =
    let row = number_first ns c.args.rows.now c.row-item.result (omega arith) c.row-item.is is in
    let at = ap (λ r. column r 0) row in
    surely (slice_index ns 0) c.number_in.result (c.number_in.ensures.ok _ at) (c.number_in.ensures.err _ at)

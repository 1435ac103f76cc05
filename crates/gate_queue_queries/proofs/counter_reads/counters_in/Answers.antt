use Rattle.std.proofs.Common.{ap, sym}
use Rattle.sqlite_value.specs.Order.{column}
use Rattle.gate_queue_queries.proofs.CounterReads.{counter_row}
use Rattle.gate_queue_queries.proofs.counter_reads.counters_in.Goals as goal

pub returns-in_err-drawn_in-in-len3 : goal.returns-in_err-drawn_in-in-len3
returns-in_err-drawn_in-in-len3 c d are form =
    let row = counter_row d c.args.rows.now c.approval-item.result 0 c.approval-item.is are in
    let none = c.in_err-drawn_in-in-len3.ensures.err d.approval (ap (λ r. column r 0) row) (ap (λ r. column r 1) row) in
    absurd none

pub returns-in_err-drawn_in-in-len3-2 : goal.returns-in_err-drawn_in-in-len3-2
returns-in_err-drawn_in-in-len3-2 c d are form =
    let row = counter_row d c.args.rows.now c.build-item.result 1 c.build-item.is are in
    let none = c.in_err-drawn_in-in-len3-2.ensures.err d.build (ap (λ r. column r 0) row) (ap (λ r. column r 1) row) in
    absurd none

pub returns-in_err-drawn_in-in-len3-3 : goal.returns-in_err-drawn_in-in-len3-3
returns-in_err-drawn_in-in-len3-3 c d are form =
    let row = counter_row d c.args.rows.now c.order-item.result 2 c.order-item.is are in
    let none = c.in_err-drawn_in-in-len3-3.ensures.err d.order (ap (λ r. column r 0) row) (ap (λ r. column r 1) row) in
    absurd none

pub returns-in_ok-drawn_in-in-len3-3 : goal.returns-in_ok-drawn_in-in-len3-3
returns-in_ok-drawn_in-in-len3-3 c d are form =
    let first = counter_row d c.args.rows.now c.approval-item.result 0 c.approval-item.is are in
    let second = counter_row d c.args.rows.now c.build-item.result 1 c.build-item.is are in
    let third = counter_row d c.args.rows.now c.order-item.result 2 c.order-item.is are in
    let approval = c.in_ok-drawn_in-in-len3.ensures.ok d.approval (ap (λ r. column r 1) first) in
    let build = c.in_ok-drawn_in-in-len3-2.ensures.ok d.build (ap (λ r. column r 1) second) in
    let order = c.in_ok-drawn_in-in-len3-3.ensures.ok d.order (ap (λ r. column r 1) third) in
    c.counters_of.ensures d (λ i. record { approval = sym approval i; build = sym build i; order = sym order i }) form

use Rattle.std.proofs.Common.{◌∙◌, ◌&&◌, ap, nat_eq, sym}
use Rattle.gate_rows.proofs.NeedsShown.{first_and_others, needed_of}
use Rattle.gate_rows.proofs.changes.are_needs.Goals as goal
use lib.Pointwise.{pointwise}

pub returns-then-not-is_need : goal.returns-then-not-is_need
returns-then-not-is_need c found shows =
    let was = c.loop-row.invariant found shows in
    let next = first_and_others was.0 c.loop-row.rest.now c.in-Some.later.now c.in-Some.row.now c.loop-row.left.now c.in-Some-split_first.others.now c.in-Some-split_first.needed.now c.is_need.result
    c.in-Some.ensures.cases.0 c.in-Some-split_first.ensures.cases.0 c.is_need.ensures was.1 in
    sym (was.2 ∙ next.2 ∙ ap (λ b. b && pointwise nat_eq (needed_of next.0) c.in-Some-split_first.others.now) c.if-not-is_need.true)

pub loop-row-preserved : goal.loop-row-preserved
loop-row-preserved c found shows =
    let was = c.loop-row.invariant found shows in
    let next = first_and_others was.0 c.loop-row.rest.now c.in-Some.later.now c.in-Some.row.now c.loop-row.left.now c.in-Some-split_first.others.now c.in-Some-split_first.needed.now c.is_need.result
    c.in-Some.ensures.cases.0 c.in-Some-split_first.ensures.cases.0 c.is_need.ensures was.1 in
    (next.0, next.1, was.2 ∙ next.2 ∙ ap (λ b. b && pointwise nat_eq (needed_of next.0) c.in-Some-split_first.others.now) c.if-not-is_need.false)

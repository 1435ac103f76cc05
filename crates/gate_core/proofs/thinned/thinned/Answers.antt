use Rattle.gate_core.proofs.Thinning.{thinning_next}
use Rattle.gate_core.proofs.thinned.thinned.Goals as goal

pub loop-edit-preserved : goal.loop-edit-preserved
loop-edit-preserved c =
    let going = c.loop-edit.invariant in
    thinning_next going c.in-Some.edit _ _ _ _ c.in-Some.ensures.items
    (c.in_ok-staying.ensures.stays going.later going.put) c.in_ok-push_if.ensures
    (c.in_ok-staying.ensures.noted going.later going.put)

use Rattle.std.proofs.Common.{arith}
use Rattle.gate_memory.proofs.NeedLemmas.{needs_more}
use Rattle.gate_memory.proofs.needs.count_needs.Goals as goal

pub loop-edit-preserved : goal.loop-edit-preserved
loop-edit-preserved c =
    let edits = c.args.edits.now in
    let k = c.loop-edit.edit-index in
    let next = needs_more edits k c.edit-item.result c.loop-edit-test.true c.edit-item.is in
    omega (arith, next, c.in-Some.ensures, c.needs_of.ensures, c.loop-edit.invariant)

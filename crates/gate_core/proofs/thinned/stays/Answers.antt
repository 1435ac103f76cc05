use Rattle.std.proofs.Common.{None}
use Rattle.gate_core.proofs.Thinning.{draw_is_noted, put_is_noted}
use Rattle.gate_core.proofs.thinned.stays.Goals as goal

pub returns-then-is_last-clause-noted : goal.returns-then-is_last-clause-noted
returns-then-is_last-clause-noted c edits h =
    put_is_noted c.args.edit.now _ _ c.in-PutChange.is edits c.args.later.now _
    (c.in_ok-is_last-in-PutChange.ensures.noted edits h.changes None) h

pub returns-else-is_last-clause-noted : goal.returns-else-is_last-clause-noted
returns-else-is_last-clause-noted c edits h =
    put_is_noted c.args.edit.now _ _ c.in-PutChange.is edits c.args.later.now _
    (c.in_ok-is_last-in-PutChange.ensures.noted edits h.changes None) h

pub returns-in-SetCounter-clause-noted : goal.returns-in-SetCounter-clause-noted
returns-in-SetCounter-clause-noted c edits h =
    draw_is_noted c.args.edit.now _ _ c.in-SetCounter.is edits c.args.later.now _ c.is_last_drawn.ensures.noted h

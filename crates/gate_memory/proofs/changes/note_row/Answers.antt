use Rattle.gate_memory.proofs.changes.note_row.Goals as goal

pub returns-clause-back : goal.returns-clause-back
returns-clause-back c = rw c.as_slice.ensures at c.note_needs.ensures.back

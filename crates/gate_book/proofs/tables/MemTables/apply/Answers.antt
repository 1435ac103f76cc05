use Rattle.gate_book.proofs.tables.MemTables.apply.Goals as goal

pub returns-clause-room : goal.returns-clause-room
returns-clause-room c n m room = record {
  queues = rw c.apply_to_others.ensures.queues (c.apply_in.ensures.room n room.queues);
  others = c.apply_to_others.ensures.room n m (record { changes = room.others.changes; plans = room.others.plans; builds = room.others.builds; replies = room.others.replies });
}

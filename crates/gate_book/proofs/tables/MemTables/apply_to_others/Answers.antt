use Rattle.std.proofs.Common.{suc}
use Rattle.gate_memory.specs.Needs.{needs_brought}
use Rattle.gate_book.proofs.MemoryLemmas.{changes_less, plans_less, builds_less, replies_less}
use Rattle.gate_book.proofs.tables.MemTables.apply_to_others.Goals as goal

pub returns-in-PutChange-clause-room : goal.returns-in-PutChange-clause-room
returns-in-PutChange-clause-room c n m room = record { changes = c.put.ensures.room n m (rw c.in-PutChange.is at room.changes); plans = plans_less n c.args.self.now.plans room.plans; builds = builds_less n c.args.self.now.builds room.builds; replies = replies_less n c.args.self.now.replies room.replies }

pub returns-in-PutBuild-clause-room : goal.returns-in-PutBuild-clause-room
returns-in-PutBuild-clause-room c n m room = record { changes = changes_less n (needs_brought c.args.edit) m c.args.self.now.changes room.changes; plans = plans_less n c.args.self.now.plans room.plans; builds = c.put-in-PutBuild.ensures.room n room.builds; replies = replies_less n c.args.self.now.replies room.replies }

pub returns-in-SetOutcome-clause-room : goal.returns-in-SetOutcome-clause-room
returns-in-SetOutcome-clause-room c n m room = record { changes = changes_less n (needs_brought c.args.edit) m c.args.self.now.changes room.changes; plans = plans_less n c.args.self.now.plans room.plans; builds = builds_less n c.set_outcome.new.self (c.set_outcome.ensures.room (suc n) room.builds); replies = replies_less n c.args.self.now.replies room.replies }

pub returns-in-StopBuild-clause-room : goal.returns-in-StopBuild-clause-room
returns-in-StopBuild-clause-room c n m room = record { changes = changes_less n (needs_brought c.args.edit) m c.args.self.now.changes room.changes; plans = plans_less n c.args.self.now.plans room.plans; builds = builds_less n c.stop.new.self (c.stop.ensures.room (suc n) room.builds); replies = replies_less n c.args.self.now.replies room.replies }

pub returns-in-SetCounter-clause-room : goal.returns-in-SetCounter-clause-room
returns-in-SetCounter-clause-room c n m room = record { changes = changes_less n (needs_brought c.args.edit) m c.args.self.now.changes room.changes; plans = plans_less n c.args.self.now.plans room.plans; builds = builds_less n c.args.self.now.builds room.builds; replies = replies_less n c.args.self.now.replies room.replies }

pub returns-in-Keep-clause-room : goal.returns-in-Keep-clause-room
returns-in-Keep-clause-room c n m room = record { changes = changes_less n (needs_brought c.args.edit) m c.args.self.now.changes room.changes; plans = plans_less n c.args.self.now.plans room.plans; builds = builds_less n c.args.self.now.builds room.builds; replies = c.keep.ensures.room n room.replies }

pub returns-clause-room : goal.returns-clause-room
returns-clause-room c n m room = record { changes = changes_less n (needs_brought c.args.edit) m c.args.self.now.changes room.changes; plans = plans_less n c.args.self.now.plans room.plans; builds = builds_less n c.args.self.now.builds room.builds; replies = replies_less n c.args.self.now.replies room.replies }

pub returns-in-DropItem-clause-room : goal.returns-in-DropItem-clause-room
returns-in-DropItem-clause-room c n m room = record { changes = changes_less n (needs_brought c.args.edit) m c.args.self.now.changes room.changes; plans = plans_less n c.remove.new.self (c.remove.ensures.room (suc n) room.plans); builds = builds_less n c.args.self.now.builds room.builds; replies = replies_less n c.args.self.now.replies room.replies }

pub returns-in-PutPlan-clause-room : goal.returns-in-PutPlan-clause-room
returns-in-PutPlan-clause-room c n m room = record { changes = changes_less n (needs_brought c.args.edit) m c.args.self.now.changes room.changes; plans = c.put-in-PutPlan.ensures.room n room.plans; builds = builds_less n c.args.self.now.builds room.builds; replies = replies_less n c.args.self.now.replies room.replies }

pub returns-in-LandItem-clause-room : goal.returns-in-LandItem-clause-room
returns-in-LandItem-clause-room c n m room = record { changes = changes_less n (needs_brought c.args.edit) m c.args.self.now.changes room.changes; plans = plans_less n c.unmark.new.self (c.unmark.ensures.room (suc n) room.plans); builds = builds_less n c.args.self.now.builds room.builds; replies = replies_less n c.args.self.now.replies room.replies }

pub returns-in-SetStage-clause-room : goal.returns-in-SetStage-clause-room
returns-in-SetStage-clause-room c n m room = record { changes = c.set_stage.ensures.room n m (changes_less n (needs_brought c.args.edit) m c.args.self.now.changes room.changes); plans = plans_less n c.args.self.now.plans room.plans; builds = builds_less n c.args.self.now.builds room.builds; replies = replies_less n c.args.self.now.replies room.replies }

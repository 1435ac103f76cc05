use Rattle.std.proofs.Common.{◌+◌, suc, arith}
use Rattle.gate_memory.specs.Needs.{needs_brought}
use Rattle.gate_memory.proofs.RoomLemmas.{changes_fewer}
use Rattle.gate_live.proofs.held_changes.HeldChanges.apply.Goals as goal

pub returns-in-PutChange-clause-room : goal.returns-in-PutChange-clause-room
returns-in-PutChange-clause-room c n m room = c.put.ensures.room n m (rw c.in-PutChange.is at room)

pub returns-in-SetStage-clause-room : goal.returns-in-SetStage-clause-room
returns-in-SetStage-clause-room c n m room =
    c.set_stage.ensures.room n m (changes_fewer (suc n) (needs_brought c.args.edit + m) n m c.args.self.now.table (omega arith) (omega arith) room)

pub returns-clause-room : goal.returns-clause-room
returns-clause-room c n m room = changes_fewer (suc n) (needs_brought c.args.edit + m) n m c.args.self.now.table (omega arith) (omega arith) room

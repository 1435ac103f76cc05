use Rattle.std.proofs.Common.{◌≤◌, length, arith}
use Rattle.gate_memory.specs.Needs.{needs_of_all}
use Rattle.gate_memory.proofs.RoomLemmas.{changes_fewer}
use Rattle.gate_live.proofs.held_changes.HeldChanges.make_room.Goals as goal

pub returns-clause-room : goal.returns-clause-room
returns-clause-room c =
    let edits = c.args.edits.now in
    let needs = c.in-Some.needs in
    let few : needs_of_all edits ≤ needs = omega (arith, c.in-Some.ensures) in
    changes_fewer (length edits) needs (length edits) (needs_of_all edits) c.make_room.new.self (omega arith) few c.in_ok-make_room.ensures.room

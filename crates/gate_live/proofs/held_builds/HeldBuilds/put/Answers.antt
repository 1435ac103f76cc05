use Rattle.gate_live.proofs.RoomLemmas.{build_room_less}
use Rattle.gate_live.proofs.held_builds.HeldBuilds.put.Goals as goal

pub returns-else-is_live_known-clause-room : goal.returns-else-is_live_known-clause-room
returns-else-is_live_known-clause-room c n room = c.remove.ensures.room n (build_room_less n c.args.self.now room)

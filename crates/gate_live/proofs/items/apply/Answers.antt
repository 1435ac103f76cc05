use Rattle.gate_live.proofs.RoomLemmas.{build_room_less, plan_room_less}
use Rattle.gate_live.proofs.items.apply.Goals as goal

pub returns-in-DropItem-clause-build_room : goal.returns-in-DropItem-clause-build_room
returns-in-DropItem-clause-build_room c n room = c.forget-in-DropItem.ensures.room n (build_room_less n c.args.builds.now room)

pub returns-in-DropItem-clause-plan_room : goal.returns-in-DropItem-clause-plan_room
returns-in-DropItem-clause-plan_room c n room = c.forget.ensures.room n (plan_room_less n c.args.plans.now room)

pub returns-in-SetOutcome-clause-build_room : goal.returns-in-SetOutcome-clause-build_room
returns-in-SetOutcome-clause-build_room c n room = c.set_outcome.ensures.room n (build_room_less n c.args.builds.now room)

pub returns-in-StopBuild-clause-build_room : goal.returns-in-StopBuild-clause-build_room
returns-in-StopBuild-clause-build_room c n room = c.stop.ensures.room n (build_room_less n c.args.builds.now room)

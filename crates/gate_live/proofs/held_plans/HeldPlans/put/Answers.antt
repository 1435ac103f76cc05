use Rattle.gate_live.proofs.RoomLemmas.{plan_room_less}
use Rattle.gate_live.proofs.held_plans.HeldPlans.put.Goals as goal

pub returns-else-is_item-clause-room : goal.returns-else-is_item-clause-room
returns-else-is_item-clause-room c n room = c.remove.ensures.room n (plan_room_less n c.args.self.now room)

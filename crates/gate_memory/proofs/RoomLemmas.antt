-- Room for more rows is room for fewer.
use Rattle.std.proofs.Common.{ℕ, ◌≤◌, arith}
use Rattle.gate_memory.specs.Builds.{HaveRoom}
use Rattle.gate_memory.specs.Changes as change
use Rattle.gate_memory.specs.Plans as plan
use Rattle.gate_memory.specs.Queues as queue
use Rattle.gate_memory.specs.Replies as reply
use Rattle.gate_memory.specs.declared.builds.BuildTable.{BuildTable}
use Rattle.gate_memory.specs.declared.changes.ChangeTable.{ChangeTable}
use Rattle.gate_memory.specs.declared.plans.PlanTable.{PlanTable}
use Rattle.gate_memory.specs.declared.queues.QueueTable.{QueueTable}
use Rattle.gate_memory.specs.declared.replies.ReplyTable.{ReplyTable}

pub changes_fewer : (n m k j : ℕ) (t : ChangeTable) → k ≤ n → j ≤ m → change.HasRoomForChanges n m t → change.HasRoomForChanges k j t
changes_fewer n m k j t less few room = record {
  rows = omega (arith, room.rows);
  positions = omega (arith, room.positions);
  ready = omega (arith, room.ready);
  needs = omega (arith, room.needs);
}

pub plans_fewer : (n k : ℕ) (t : PlanTable) → k ≤ n → plan.HasRoomForPlans n t → plan.HasRoomForPlans k t
plans_fewer n k t less room = omega (arith, room)

pub builds_fewer : (n k : ℕ) (t : BuildTable) → k ≤ n → HaveRoom n t → HaveRoom k t
builds_fewer n k t less room = record {
  rows = omega (arith, room.rows);
  live = omega (arith, room.live);
  told = omega (arith, room.told);
}

pub replies_fewer : (n k : ℕ) (t : ReplyTable) → k ≤ n → reply.HasRoomForReplies n t → reply.HasRoomForReplies k t
replies_fewer n k t less room = record { rows = omega (arith, room.rows); positions = omega (arith, room.positions) }

pub queue_fewer : (n k : ℕ) (t : QueueTable) → k ≤ n → queue.HasRoomForRows n t → queue.HasRoomForRows k t
queue_fewer n k t less room = record {
  items = omega (arith, room.items);
  entries = omega (arith, room.entries);
  landings = omega (arith, room.landings);
  reports = record { rows = omega (arith, room.reports.rows); entries = omega (arith, room.reports.entries) };
}

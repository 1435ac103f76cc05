-- The queues of a book in memory, and room in its tables.
use Rattle.std.proofs.Common.{◌≡◌, ℕ, suc, ◌+◌, List, [], Option, map, arith}
use Rattle.std.specs.Option.{option_map_or}
use Rattle.std.proofs.lemmas.Simd.{map-map}
use Rattle.gate_types.specs.declared.records.Item.{Item}
use Rattle.gate_types.specs.Tables.{QueueRows}
use Rattle.gate_memory.specs.declared.queues.QueueTable.{QueueTable}
use Rattle.gate_memory.specs.Builds.{HaveRoom}
use Rattle.gate_memory.specs.Changes as change
use Rattle.gate_memory.specs.HeldQueues.{LiveQueue, whole_queue}
use Rattle.gate_memory.specs.Queues as queue
use Rattle.gate_memory.specs.Replies as reply
use Rattle.gate_memory.specs.Plans as plan
use Rattle.gate_memory.specs.declared.builds.BuildTable.{BuildTable}
use Rattle.gate_memory.specs.declared.changes.ChangeTable.{ChangeTable}
use Rattle.gate_memory.specs.declared.plans.PlanTable.{PlanTable}
use Rattle.gate_memory.specs.declared.replies.ReplyTable.{ReplyTable}
use Rattle.gate_memory.proofs.RoomLemmas.{builds_fewer, changes_fewer, plans_fewer, queue_fewer, replies_fewer}
use Rattle.gate_book_trait.proofs.Finding.{in_weaker}
use Rattle.gate_book.specs.Memory.{HasRoomInAll}
use Rattle.gate_book.specs.declared.tables.MemTables.{MemTables}

-- the rows of a queue that is held
abbrev pub rows_held : LiveQueue → QueueRows
rows_held l = l.rows

-- a table has all of its queue
pub whole_rows : (ts : List QueueTable) → map rows_held (map whole_queue ts) ≡ map queue.rows_of_table ts
whole_rows ts = map-map rows_held whole_queue ts

-- the items of a queue that was found
abbrev pub items_in : Option QueueRows → List Item
items_in o = option_map_or (λ q. q.items) o []

-- ---- room

-- where there is room for one more, there is room
pub changes_less : (n k m : ℕ) (t : ChangeTable) → change.HasRoomForChanges (suc n) (k + m) t → change.HasRoomForChanges n m t
changes_less n k m t room = changes_fewer (suc n) (k + m) n m t (omega arith) (omega arith) room

pub plans_less : (n : ℕ) (t : PlanTable) → plan.HasRoomForPlans (suc n) t → plan.HasRoomForPlans n t
plans_less n t room = plans_fewer (suc n) n t (omega arith) room

pub builds_less : (n : ℕ) (t : BuildTable) → HaveRoom (suc n) t → HaveRoom n t
builds_less n t room = builds_fewer (suc n) n t (omega arith) room

pub replies_less : (n : ℕ) (t : ReplyTable) → reply.HasRoomForReplies (suc n) t → reply.HasRoomForReplies n t
replies_less n t room = replies_fewer (suc n) n t (omega arith) room

-- where there is room for more, there is room for one
pub room_one : (n k m : ℕ) (t : MemTables) → HasRoomInAll (suc n) (k + m) t → HasRoomInAll 1 k t
room_one n k m t room = record {
  queues = in_weaker (queue.HasRoomForRows (suc n)) (queue.HasRoomForRows 1) (λ q r. queue_fewer (suc n) 1 q (omega arith) r)
      t.queues.items room.queues;
  others = record {
    changes = changes_fewer (suc n) (k + m) 1 k t.changes (omega arith) (omega arith) room.others.changes;
    plans = plans_fewer (suc n) 1 t.plans (omega arith) room.others.plans;
    builds = builds_fewer (suc n) 1 t.builds (omega arith) room.others.builds;
    replies = replies_fewer (suc n) 1 t.replies (omega arith) room.others.replies;
  };
}

-- How the live rows of queues, and the counters, are held in memory.
use Rattle.std.specs.Prelude.{ℕ, ◌≡◌, map, Option, IfSome}
use Rattle.std.specs.List.{AllByRecursion}
use Rattle.gate_types.specs.Settings.{Settings}
use Rattle.gate_types.specs.Once.{Content}
use Rattle.gate_types.specs.Tables.{tables}
use Rattle.gate_memory.specs.Drawn.{drawn_of}
use Rattle.gate_memory.specs.HeldQueues.{LiveQueue}
use Rattle.gate_memory.specs.Queues as queue
use Rattle.gate_live.specs.Live.{LiveTables, bare, live_tables}
use Rattle.gate_live.specs.declared.held_queue.HeldQueue.{HeldQueue}
use Rattle.gate_live.specs.declared.held.Held.{Held}

-- the live rows of a held queue
abbrev pub queue_of : HeldQueue → LiveQueue
queue_of h = record { rows = bare (queue.rows_of_table h.table); landings = h.landings; reports = h.reports }

-- the live rows of all held queues, and the counters
abbrev pub live_of : Held → LiveTables
live_of h = record { queues = map queue_of h.queues.items; counters = drawn_of h.drawn }

-- a held queue has room for n more rows
abbrev pub HasRoomIn : ℕ → HeldQueue → Type 0
HasRoomIn n q = queue.HasRoomForRows n q.table

-- each held queue has room for n more rows
abbrev pub HasRoomInEach : ℕ → Held → Type 0
HasRoomInEach n h = AllByRecursion (HasRoomIn n) h.queues.items

-- the table of a held queue satisfies its invariant
abbrev pub IsKeptQueue : HeldQueue → Type 0
IsKeptQueue q = queue.IsKeptQueueTable q.table

-- the table of each held queue satisfies its invariant
abbrev pub AreKeptQueues : Held → Type 0
AreKeptQueues h = AllByRecursion IsKeptQueue h.queues.items

-- the queues and counters, if they are held, are the live ones of a content
abbrev pub IsLiveOf : Option LiveTables → Settings → Content → Type 0
IsLiveOf live c x = IfSome live (λ l. l ≡ live_tables (tables c x))

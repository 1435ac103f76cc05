-- How a book in memory keeps all tables.
use Rattle.std.specs.Prelude.{◌≡◌, ⊤, ℕ, Bool, false, [], map}
use Rattle.std.specs.List.{AllByRecursion}
use Rattle.gate_types.specs.Settings.{Settings}
use Rattle.gate_types.specs.Counters.{Drawn}
use Rattle.gate_types.specs.State.{start}
use Rattle.gate_types.specs.AdoptedTables.{adopted_tables}
use Rattle.gate_types.specs.Once.{Content}
use Rattle.gate_types.specs.declared.open_fault.OpenFault.{OpenFault}
use Rattle.gate_types.specs.declared.open_fault.OpenFault.TheVariants as fault
use Rattle.gate_types.specs.Tables.{Tables, tables}
use Rattle.gate_memory.specs.Builds.{IsKeptBuildTable, HaveRoom}
use Rattle.gate_memory.specs.Plans as plan
use Rattle.gate_memory.specs.Changes as change
use Rattle.gate_memory.specs.Drawn.{drawn_of}
use Rattle.gate_memory.specs.Queues as queue
use Rattle.gate_memory.specs.Replies as reply
use Rattle.gate_book.specs.declared.tables.MemTables.{MemTables}

-- the content before the first delivery, with these numbers drawn
abbrev pub start_with : Settings → Drawn → Content
start_with c drawn = record { state = record (start c) { counters = drawn }; kept = [] }

-- what a book in memory holds: the settings in force, and the tables
pub record Held : Type 0 where
  pub settings : Settings
  pub tables : Tables

-- where it holds a content under settings
abbrev pub held : Settings → Content → Held
held c x = record { settings = c; tables = tables c x }

-- where it has taken other settings
abbrev pub adopted_held : Settings → Held → Held
adopted_held d m = record { settings = d; tables = adopted_tables m.settings d m.tables }

-- why settings aren't taken, where they may be, and where they may not
abbrev pub RefusesSettings : OpenFault → Bool → Type 0
RefusesSettings fault.OtherSettings may = may ≡ false
RefusesSettings fault.Unavailable may = ⊤
RefusesSettings _ may = ⊥

-- the tables that it keeps
abbrev pub tables_of : MemTables → Tables
tables_of t = record {
  changes = change.changes_of t.changes;
  queues = map queue.rows_of_table t.queues.items;
  plans = t.plans.rows.items;
  builds = t.builds.rows.items;
  counters = drawn_of t.drawn;
  kept = t.replies.rows.items;
}

-- each table is kept as it says
pub record AreKeptTables (t : MemTables) : Type 0 where
  pub changes : change.IsKeptChangeTable t.changes
  pub queues : AllByRecursion queue.IsKeptQueueTable t.queues.items
  pub plans : plan.IsKeptPlanTable t.plans
  pub builds : IsKeptBuildTable t.builds
  pub replies : reply.IsKeptReplyTable t.replies

-- room for n more changes, which have m needs, and n more plans, builds and deliveries
pub record HasRoomBeside (n m : ℕ) (t : MemTables) : Type 0 where
  pub changes : change.HasRoomForChanges n m t.changes
  pub plans : plan.HasRoomForPlans n t.plans
  pub builds : HaveRoom n t.builds
  pub replies : reply.HasRoomForReplies n t.replies

-- room for n more rows in each table, where those of changes have m needs
pub record HasRoomInAll (n m : ℕ) (t : MemTables) : Type 0 where
  pub queues : AllByRecursion (queue.HasRoomForRows n) t.queues.items
  pub others : HasRoomBeside n m t

-- All rows held in memory: queues and counters, builds, plans and changes.
use Rattle.std.specs.Prelude.{ℕ, Bool, true, false, ◌==◌, is_some, List, [], find, Option, Some, None, option_map}
use Rattle.gate_types.specs.declared.edits.Edit.{Edit}
use Rattle.gate_types.specs.declared.edits.Edit.TheVariants as edit
use Rattle.gate_types.specs.declared.records.Item.{Item}
use Rattle.gate_types.specs.declared.records.Plan.{Plan}
use Rattle.gate_types.specs.declared.rows.ChangeRow.{ChangeRow}
use Rattle.gate_types.specs.Settings.{Settings}
use Rattle.gate_types.specs.Once.{Content}
use Rattle.gate_memory.specs.HeldQueues.{live_queued}
use Rattle.gate_live.specs.Live.{LiveTables}
use Rattle.gate_live.specs.Held.{IsLiveOf}
use Rattle.gate_live.specs.HeldBuilds.{AreBuildsOf, KnownBuilds}
use Rattle.gate_live.specs.HeldPlans.{ArePlansOf}
use Rattle.gate_live.specs.HeldChanges.{AreChangesOf}

-- the queues and counters, if they are held; builds and plans; and the changes, if they are held
pub record Parts : Type 0 where
  pub tables : Option LiveTables
  pub builds : KnownBuilds
  pub plans : List Plan
  pub changes : Option (List ChangeRow)

-- no row is held
abbrev pub nothing : Parts
nothing = record { tables = None; builds = record { rows = []; known = [] }; plans = []; changes = None }

-- the item with this serial, if it is held
abbrev pub item_held : Option LiveTables → ℕ → Option Item
item_held None n = None
item_held (Some l) n = option_map (λ k. k.item) (find (λ k. k.item.serial == n) (live_queued l.queues))

-- whether the item with this serial is held
abbrev pub holds_item : Option LiveTables → ℕ → Bool
holds_item tables n = is_some (item_held tables n)

-- all held rows are those of a content
pub record Agrees (p : Parts) (c : Settings) (x : Content) : Type 0 where
  pub tables : IsLiveOf p.tables c x
  pub builds : AreBuildsOf p.builds x.state.builds
  pub plans : ArePlansOf p.plans x.state.plans
  pub changes : AreChangesOf p.changes c x

-- ---- edits

-- whether an edit concerns builds or plans
abbrev pub is_of_items : Edit → Bool
is_of_items (edit.DropItem s) = true
is_of_items (edit.LandItem s) = true
is_of_items (edit.PutPlan p) = true
is_of_items (edit.PutBuild b) = true
is_of_items (edit.SetOutcome n o) = true
is_of_items (edit.StopBuild n) = true
is_of_items _ = false

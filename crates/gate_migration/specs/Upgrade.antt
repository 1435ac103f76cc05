-- What a file of schema 1 holds, and holds while it becomes one of schema 2.
use Rattle.std.specs.Prelude.{◌≡◌, true, ℕ, List, [], IsTrue}
use Rattle.sqlite.specs.State.{State}
use Rattle.sqlite.specs.Tree.{Trees}
use Rattle.sqlite_catalog.specs.Listing.{Lists}
use Rattle.sqlite_trees.specs.Objects.{catalog_tree}
use Rattle.gate_types.specs.Migrate.{migrated_content}
use Rattle.gate_types.specs.Once.{Content}
use Rattle.gate_types.specs.Settings.{Settings}
use Rattle.gate_types.specs.SettingsText.{settings_text}
use Rattle.gate_types.specs.Tables.{Tables, fold_all, tables}
use Rattle.gate_types.specs.declared.edits.Edit.{Edit}
use Rattle.gate_schema.specs.Edits.{after_edits}
use Rattle.gate_schema.specs.Rows as rows
use Rattle.gate_schema.specs.Rows.{AreNamed, IsFixed, IsKeyed, IsListed, Stands, Stored, first_version}
use Rattle.gate_schema.specs.Schema.{gate_schema, schema_with}
use Rattle.gate_rows.specs.Matches.{HaveJobs, Matches}
use Rattle.gate_queue_queries.specs.First.{first_schema}
use Rattle.gate_file_changes.specs.Applies.{are_known, names_in}
use Rattle.gate_file_meta.specs.Reading.{meta_rows}

-- the tables of schema 1 hold this, with this version in `meta`; of plans they tell nothing
pub record HoldsRows (version : List ℕ) (db : Trees) (b : Stored) : Type 0 where
  pub meta : IsFixed (meta_rows version b.settings) (db 0)
  pub counter : IsFixed (rows.counter_columns b.counters) (db 2)
  pub queue : IsListed rows.queue_columns (db 4) b.queues
  pub change : IsKeyed rows.change_key rows.change_table_row (db 7) b.changes
  pub need : IsListed rows.need_columns (db 9) b.needs
  pub item : IsKeyed rows.item_key rows.item_table_row (db 11) b.items
  pub build : IsKeyed rows.build_key rows.build_table_row (db 13) b.builds
  pub landing : IsListed rows.landing_columns (db 14) b.landings
  pub report : IsListed rows.report_columns (db 18) b.reports
  pub delivery : IsListed rows.kept_columns (db 21) b.kept

-- a file of schema 1 holds this
pub record StandsFirst (db : Trees) (b : Stored) : Type 0 where
  pub listed : Lists (db catalog_tree) first_schema
  pub rows : HoldsRows first_version db b

-- the same without plans
abbrev pub stored_without_plans : Stored → Stored
stored_without_plans b = record b { jobs = []; fast = [] }

-- what a file of schema 1 tells of a content: the tables of what it becomes, but for plans. So the columns of an item
-- are worked out from the jobs of its change's project
abbrev pub tables_before : Settings → Content → Tables
tables_before c x = record (tables c (migrated_content c x)) { plans = [] }

-- a file of schema 1 stands for a content
pub record StandsForFirst (db : Trees) (c : Settings) (x : Content) : Type 0 where
  pub stored : Stored
  pub stands : StandsFirst db stored
  pub settings : stored.settings ≡ settings_text c
  pub matches : Matches (stored_without_plans stored) (tables_before c x)

-- ---- within the transaction

-- what the tables hold matches tables whose plans have jobs, and edits of its queues are made of them
pub record CanPlan (b : Stored) (edits : List Edit) (t : Tables) : Type 0 where
  pub named : AreNamed b
  pub known : are_known (names_in b) edits ≡ true
  pub planned : HaveJobs t.plans
  pub matches : Matches (stored_without_plans b) t

-- tables of schema 2 hold and match what the edits leave
pub record HasUpgraded (db : Trees) (b : Stored) (edits : List Edit) (t : Tables) : Type 0 where
  pub stands : Stands db (after_edits edits (stored_without_plans b))
  pub matches : Matches (after_edits edits (stored_without_plans b)) (fold_all t edits)

-- outside one: tables of schema 1 hold this
pub record CanUpgrade (s : State) (b : Stored) (edits : List Edit) (t : Tables) : Type 0 where
  pub schema_is : s.now.schema ≡ first_schema
  pub rows : HoldsRows first_version s.now.trees b
  pub plans : CanPlan b edits t

-- a file of schema 1 holds this
pub record IsFirst (b : Stored) (s : State) : Type 0 where
  pub schema_is : s.now.schema ≡ first_schema
  pub rows : HoldsRows first_version s.now.trees b
  pub inside : IsTrue s.in_transaction

-- the table of jobs is there, with no row
pub record HasJobTable (b : Stored) (s : State) : Type 0 where
  pub schema_is : s.now.schema ≡ schema_with 11 17
  pub rows : HoldsRows first_version s.now.trees b
  pub jobs : s.now.trees 26 ≡ []
  pub inside : IsTrue s.in_transaction

-- and so is that of the items that fail fast
pub record IsWidened (b : Stored) (s : State) : Type 0 where
  pub schema_is : s.now.schema ≡ gate_schema
  pub rows : HoldsRows first_version s.now.trees b
  pub jobs : s.now.trees 26 ≡ []
  pub fast : s.now.trees 28 ≡ []
  pub inside : IsTrue s.in_transaction

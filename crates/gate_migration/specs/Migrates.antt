-- The plans that a file of schema 1 gets, and what is read of it for them.
use Rattle.std.specs.Prelude.{◌≡◌, ◌⊎◌, ◌&&◌, ℕ, Bool, true, List, map, MatchResult, Result}
use Rattle.std.specs.List.{AllByRecursion}
use Rattle.sqlite.specs.Effect.{Database}
use Rattle.sqlite.specs.State.{State as SqlState}
use Rattle.gate_types.specs.Migrate.{migrated_content}
use Rattle.gate_types.specs.Once.{Content}
use Rattle.gate_types.specs.Settings.{Settings}
use Rattle.gate_types.specs.SettingsText.{settings_text}
use Rattle.gate_types.specs.State.{Item, Queue, State, project_of}
use Rattle.gate_types.specs.Tables.{change_row}
use Rattle.gate_types.specs.declared.config.Queue.{Queue as QueueSetting}
use Rattle.gate_types.specs.declared.edits.Edit.{Edit}
use Rattle.gate_types.specs.declared.edits.Edit.TheVariants as edit
use Rattle.gate_types.specs.declared.records.Item.{Item as ItemRow}
use Rattle.gate_types.specs.declared.records.Plan.{Plan}
use Rattle.gate_rows.specs.Matches.{items_of}
use Rattle.gate_rows.specs.Writes.{LeavesNothing}
use Rattle.gate_schema.specs.Rows.{Stored, first_version}
use Rattle.gate_queue_queries.specs.First.{HoldsLandings, first_schema}
use Rattle.gate_found_rows.specs.Finds.{Stays}
use Rattle.gate_table_laws.specs.Held.{IsShownFor, queue_names}
use Rattle.gate_migration.specs.Standing.{is_newly_taken}
use Rattle.gate_file_meta.specs.Reading.{ShowsMeta}
use Rattle.gate_migration.specs.Upgrade.{StandsForFirst}
use Rattle.gate_migration.specs.declared.migrating.Migrated.{Migrated}
use Rattle.gate_types.specs.declared.open_fault.OpenFault.{OpenFault}
use Rattle.gate_types.specs.declared.open_fault.OpenFault.TheVariants as fault

-- the edits that put plans
abbrev pub puts : List Plan → List Edit
puts ps = map (λ (p : Plan). edit.PutPlan p) ps

-- a plan under a serial: the jobs of the project of a change, and whether that fails fast, where it may
abbrev pub plan_for : Settings → State → Bool → ℕ × ℕ → Plan
plan_for c s may p = record {
  serial = p.0;
  jobs = (project_of c s p.1).jobs;
  fast = may && (project_of c s p.1).fail_fast;
}

-- a serial and its change
abbrev pub pair_of_row : ItemRow → ℕ × ℕ
pair_of_row i = (i.serial, i.change)

abbrev pub pair_of_item : Item → ℕ × ℕ
pair_of_item i = (i.serial, i.change)

-- a file's items and landings of a queue are the queue's
pub record TellsQueue (b : Stored) (q : Queue) : Type 0 where
  pub items : map pair_of_row (items_of q.name b.items) ≡ map pair_of_item q.items
  pub landings : HoldsLandings b q.name q.landings

-- a file's changes, and its items and landings, are those of a state with the queues of the settings
pub record TellsState (b : Stored) (c : Settings) (s : State) : Type 0 where
  pub changes : b.changes ≡ map (change_row s.ready) s.changes
  pub queues : AllByRecursion (TellsQueue b) s.queues
  pub names : map (λ (q : Queue). q.name) s.queues ≡ map (λ (q : QueueSetting). q.name) c.queues

-- a connection on schema 1 whose tables stand for a content with the queues of the settings
pub record CanMigrate (s : SqlState) (c : Settings) (x : Content) : Type 0 where
  pub schema_is : s.now.schema ≡ first_schema
  pub stands : StandsForFirst s.now.trees c x
  pub queues_are_set : map (λ (q : Queue). q.name) x.state.queues ≡ queue_names c

-- the file stands for what the content becomes; or memory, the disk or its size failed, or two plans would have one
-- serial, and it is as it was
abbrev pub Carries : SqlState → SqlState → Settings → Content → Result Migrated OpenFault → Type 0
Carries old new c x result =
    MatchResult result (λ _. IsShownFor new c (migrated_content c x)) (λ f. (f ≡ fault.Unavailable) × Stays old new)

-- it isn't a file of schema 1 with these settings whose new names are free
abbrev pub HasNoneToMigrate : Database → Settings → Type 0
HasNoneToMigrate db d = (is_newly_taken db.schema ≡ true) ⊎ (ShowsMeta db first_version (settings_text d) → ⊥)

-- nothing is made of it: what is shown stays, and a crash leaves what it left before
pub record IsLeft (old new : SqlState) : Type 0 where
  pub stays : Stays old new
  pub crash : LeavesNothing old new

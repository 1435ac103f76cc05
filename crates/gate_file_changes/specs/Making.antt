-- What a file holds while it is made a gate's.
use Rattle.std.specs.Prelude.{◌≡◌, ℕ, suc, List, [], ◌∷◌, ◌++◌, drop, IsTrue, Result, OnOk}
use Rattle.std.specs.List.{AllByRecursion}
use Rattle.sqlite.specs.Schema.{Schema}
use Rattle.sqlite.specs.State.{HasCleanDisk, KeepsCommit, State}
use Rattle.sqlite.specs.Table.{Table}
use Rattle.sqlite_catalog.specs.Listing.{Lists}
use Rattle.sqlite_trees.specs.Objects.{catalog_tree}
use Rattle.gate_types.specs.declared.config.Queue.{Queue}
use Rattle.gate_schema.specs.Rows.{IsFixed, IsReady, QueueRow, Stands, Stored, meta_columns}
use Rattle.gate_schema.specs.Schema.{gate_schema}

-- ---- the rows before the first delivery

-- a queue's row, at its index
abbrev pub queue_row_at : ℕ → Queue → QueueRow
queue_row_at index q = record { name = q.name; place = index; window = q.window }

-- the queues' rows, by their indexes from n on
abbrev pub first_queue_rows : ℕ → List Queue → List QueueRow
first_queue_rows n [] = []
first_queue_rows n (q ∷ qs) = queue_row_at n q ∷ first_queue_rows (suc n) qs

-- these rows of queues, and this text of the settings; nothing else
abbrev pub first_stored : List ℕ → List QueueRow → Stored
first_stored settings queues = record {
  settings = settings;
  counters = record { approval = 0; build = 0; order = 0 };
  queues = queues;
  changes = [];
  needs = [];
  items = [];
  builds = [];
  landings = [];
  reports = [];
  kept = [];
  jobs = [];
  fast = [];
}

-- a queue's row added at the end
abbrev pub with_queue : QueueRow → Stored → Stored
with_queue q b = record b { queues = b.queues ++ q ∷ [] }

-- these rows in place of those of the queues
abbrev pub with_rows : List QueueRow → Stored → Stored
with_rows rows b = record b { queues = rows }

-- ---- within the transaction

-- none of these tables has a row
abbrev pub AreEmpty : State → List Table → Type 0
AreEmpty s tables = AllByRecursion (λ (t : Table). s.now.trees t.tree ≡ []) tables

-- the tables of this schema are there, with no row
pub record IsBare (schema : Schema) (s : State) : Type 0 where
  pub schema_is : s.now.schema ≡ schema
  pub empty : AreEmpty s schema.tables
  pub inside : IsTrue s.in_transaction

-- `meta` is written, and no other table has a row
pub record HasMeta (settings : List ℕ) (s : State) : Type 0 where
  pub ready : IsReady s
  pub listed : Lists (s.now.trees catalog_tree) gate_schema
  pub meta : IsFixed (meta_columns settings) (s.now.trees 0)
  pub empty : AreEmpty s (drop 1 gate_schema.tables)

-- the tables hold this
pub record IsFilled (b : Stored) (s : State) : Type 0 where
  pub ready : IsReady s
  pub stands : Stands s.now.trees b

-- where the disk has returned what was written, Ok leads from the one to the other
abbrev pub Turns : {T E : Type 0} → State → State → Result T E → (State → Type 0) → (State → Type 0) → Type 0
Turns old new result Before After = HasCleanDisk new → Before old → OnOk result (After new)

-- a transaction is under way
abbrev pub IsInside : State → Type 0
IsInside s = IsTrue s.in_transaction

-- the connection is up, and what it shows is committed
abbrev pub IsUpAndCommitted : State → Type 0
IsUpAndCommitted s = IsTrue s.is_open × (s.committed ≡ s.now)

-- nothing is committed
abbrev pub KeepsInside : State → State → Type 0
KeepsInside old new = HasCleanDisk new → IsInside old → KeepsCommit old new

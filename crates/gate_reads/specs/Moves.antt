-- Edits that settle nothing: what they make of tables, whatever the columns of the items are.
use Rattle.std.specs.Prelude.{ℕ, Bool, ◌≡◌, List, map, Option}
use Rattle.gate_types.specs.declared.records.Item.{Item as ItemRow}
use Rattle.gate_types.specs.declared.records.Build.{Build}
use Rattle.gate_types.specs.declared.edits.Edit.{Edit}
use Rattle.gate_types.specs.Settings.{Settings}
use Rattle.gate_types.specs.State.{Item, State}
use Rattle.gate_types.specs.Line.{Place}
use Rattle.gate_types.specs.Standing.{is_failing, ahead_of}
use Rattle.gate_types.specs.Rebase.{rebase}
use Rattle.gate_types.specs.Sweep.{sweep}
use Rattle.gate_types.specs.Once.{Content}
use Rattle.gate_types.specs.Tables.{Tables, tables_with, fold_all}

-- the content in another state
abbrev pub in_state : Content → State → Content
in_state x u = record x { state = u }

-- a state after a rebase and a sweep of all queues
abbrev pub swept : Settings → State → State
swept c t = sweep c (rebase c t)

-- the two columns of an item
pub record Columns : Type 0 where
  pub ahead : Option ℕ
  pub failing : Bool

-- the row of an item, by the columns of its serial
abbrev pub row_by_columns : (ℕ → Columns) → Item → ItemRow
row_by_columns columns i = record {
  serial = i.serial;
  change = i.change;
  revision = i.revision;
  ahead = (columns i.serial).ahead;
  failing = (columns i.serial).failing;
}

-- the tables of a content but for the columns, which are these
abbrev pub tables_by : (ℕ → Columns) → Content → Tables
tables_by columns x = tables_with (λ q. map (row_by_columns columns) q.items) x

-- the columns at a place
abbrev pub columns_at : List Build → Place → Columns
columns_at builds p = record { ahead = ahead_of p; failing = is_failing builds p }

-- the edits move a content to another state, and leave the columns as they are, whatever they are
abbrev pub Moves : Content → List Edit → State → Type 0
Moves x edits t = (columns : ℕ → Columns) → fold_all (tables_by columns x) edits ≡ tables_by columns (in_state x t)

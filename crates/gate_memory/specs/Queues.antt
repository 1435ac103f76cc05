-- How a book in memory keeps a queue: its rows by their keys, beside an index of its items by change.
use Rattle.std.specs.Prelude.{ℕ, Bool, ◌==◌, ◌≤◌, ◌+◌, List, vec_len, vec_capacity}
use Rattle.std.specs.List.{AllByRecursion}
use Rattle.gate_types.specs.declared.records.Item.{Item}
use Rattle.gate_types.specs.Tables.{QueueRows}
use Rattle.gate_types.specs.Keys.{serial_of_item, place_of_landing}
use Rattle.gate_types.specs.Rising.{RisesFrom, In}
use Rattle.gate_memory.specs.Pairs.{pair_key, IsFit}
use Rattle.gate_memory.specs.declared.pairs.Pair.{Pair}
use Rattle.gate_memory.specs.Reports as report
use Rattle.gate_memory.specs.declared.queues.QueueTable.{QueueTable}

-- an item of a change
abbrev pub is_item_of : ℕ → Item → Bool
is_item_of n i = i.change == n

-- what the index keeps of an item
abbrev pub indexed_item : Item → Pair
indexed_item i = record { first = i.change; second = i.serial }

-- each item stands in the index
abbrev pub TellsItems : List Pair → List Item → Type 0
TellsItems entries items = AllByRecursion (λ i. In (indexed_item i) entries) items

-- all lists rise, and the index has each item
pub record IsKeptQueueTable (t : QueueTable) : Type 0 where
  pub items_rise : RisesFrom serial_of_item 0 t.items.items
  pub entries_rise : RisesFrom pair_key 0 t.entries.items
  pub entries_fit : AllByRecursion IsFit t.entries.items
  pub items_told : TellsItems t.entries.items t.items.items
  pub landings_rise : RisesFrom place_of_landing 0 t.landings.items
  pub reports : report.IsKeptReportTable t.reports

-- room for n more rows of each kind
pub record HasRoomForRows (n : ℕ) (t : QueueTable) : Type 0 where
  pub items : vec_len t.items + n ≤ vec_capacity t.items
  pub entries : vec_len t.entries + n ≤ vec_capacity t.entries
  pub landings : vec_len t.landings + n ≤ vec_capacity t.landings
  pub reports : report.HasRoomForReports n t.reports

-- its rows
abbrev pub rows_of_table : QueueTable → QueueRows
rows_of_table t = record {
  name = t.name;
  window = t.window;
  items = t.items.items;
  landings = t.landings.items;
  reports = t.reports.rows.items;
}

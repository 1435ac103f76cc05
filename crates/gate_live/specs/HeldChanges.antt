-- Which changes are held in memory, and what edits make of them.
use Rattle.std.specs.Prelude.{
  ℕ,
  Bool,
  true,
  false,
  ◌≡◌,
  ◌||◌,
  ◌==◌,
  if◌then◌else◌,
  List,
  [],
  nat_lt,
  filter,
  find,
  fold,
  Option,
  Some,
  None,
  is_some,
  IfSome,
  IsSome,
}
use Rattle.std.specs.List.{list_all}
use Rattle.std.specs.Option.{option_map_or}
use Rattle.gate_types.specs.declared.edits.Edit.{Edit}
use Rattle.gate_types.specs.declared.edits.Edit.TheVariants as edit
use Rattle.gate_types.specs.declared.records.Change.{Change}
use Rattle.gate_types.specs.declared.records.Item.{Item}
use Rattle.gate_types.specs.declared.rows.ChangeRow.{ChangeRow}
use Rattle.gate_types.specs.State.{put_by}
use Rattle.gate_types.specs.Settings.{Settings}
use Rattle.gate_types.specs.Once.{Content}
use Rattle.gate_types.specs.Tables.{at_stage, change_known, tables, change_row_in}
use Rattle.gate_types.specs.Keys.{number_of_change}
use Rattle.gate_book_trait.specs.RowReads.{approval_in}
use Rattle.gate_memory.specs.Sorted.{without}
use Rattle.gate_memory.specs.Changes as change_table
use Rattle.gate_memory.specs.HeldQueues.{LiveQueue, live_queued}
use Rattle.gate_live.specs.Held.{live_of}
use Rattle.gate_live.specs.declared.held.Held.{Held}
use Rattle.gate_live.specs.declared.held_changes.HeldChanges.{HeldChanges}

-- each held row equals the row of its change among all rows, and the rows of all ready changes are held
pub record AreRowsOf (rows all : List ChangeRow) : Type 0 where
  pub own : (n : ℕ) → IsSome (change_row_in rows n) → change_row_in rows n ≡ change_row_in all n
  pub ready : (n : ℕ) → IsSome (approval_in all n) → change_row_in rows n ≡ change_row_in all n

-- the rows, if changes are held, are some of all rows, with all ready ones
abbrev pub AnyAreHeldOf : Option (List ChangeRow) → List ChangeRow → Type 0
AnyAreHeldOf rows all = IfSome rows (λ rs. AreRowsOf rs all)

-- the rows, if changes are held, are some of the changes of a content, with all ready ones
abbrev pub AreChangesOf : Option (List ChangeRow) → Settings → Content → Type 0
AreChangesOf rows c x = AnyAreHeldOf rows (tables c x).changes

-- whether the row of a change is among these rows
abbrev pub has_row : List ChangeRow → ℕ → Bool
has_row rows n = is_some (change_row_in rows n)

-- whether the rows of all these items' changes are among these rows
abbrev pub has_rows_of : List ChangeRow → List Item → Bool
has_rows_of rows items = list_all (λ i. has_row rows i.change) items

-- the items above a serial
abbrev pub items_above : ℕ → List Item → List Item
items_above above items = filter (λ i. nat_lt above i.serial) items

-- ---- what edits make of the held changes

-- the held rows after a row is put: it is held if its change is ready or was held before
abbrev pub with_row : List ChangeRow → ChangeRow → List ChangeRow
with_row rows r = if is_some r.approval || has_row rows r.change.number then put_by number_of_change r rows else rows

-- whether an edit concerns changes
abbrev pub is_of_changes : Edit → Bool
is_of_changes (edit.PutChange k approval) = true
is_of_changes (edit.SetStage n stage) = true
is_of_changes _ = false

-- the held rows after an edit
abbrev pub edited_rows : List ChangeRow → Edit → List ChangeRow
edited_rows rows (edit.PutChange k approval) = with_row rows (record { change = k; approval = approval })
edited_rows rows (edit.SetStage n stage) = change_known n (at_stage stage) rows
edited_rows rows _ = rows

-- the held rows after a list of edits
abbrev pub fold_rows : List ChangeRow → List Edit → List ChangeRow
fold_rows rows edits = fold edited_rows rows edits

-- the row of a change that isn't ready
abbrev pub unready_row : Change → ChangeRow
unready_row k = record { change = k; approval = None }

-- ---- which changes are dropped

-- the held rows without the row of a change, unless the change is ready
abbrev pub without_change : List ChangeRow → ℕ → List ChangeRow
without_change rows n = if is_some (approval_in rows n) then rows else without number_of_change n rows

-- the change that may have no item after an edit: the one that the edit puts, sets or reports, if any
abbrev pub change_touched : Edit → Option ℕ
change_touched (edit.PutChange k approval) = Some k.number
change_touched (edit.SetStage n stage) = Some n
change_touched (edit.PutReport queue place r) = Some r.change
change_touched _ = None

-- whether an item of these queues has the change
abbrev pub is_queued_in : List LiveQueue → ℕ → Bool
is_queued_in queues n = is_some (find (λ k. k.item.change == n) (live_queued queues))

-- the held rows without the change that an edit touched, unless the change is ready or queued
abbrev pub without_left : List LiveQueue → List ChangeRow → Edit → List ChangeRow
without_left queues rows e =
    option_map_or (λ n. if is_queued_in queues n then rows else without_change rows n) (change_touched e) rows

-- the held rows after edits that led to these queues: those of changes are made, then rows neither ready nor queued are
-- dropped
abbrev pub rows_edited : List LiveQueue → List Edit → List ChangeRow → List ChangeRow
rows_edited queues edits rows = fold (without_left queues) (fold_rows rows (filter is_of_changes edits)) edits

-- ---- how changes are held

-- the live rows of the held queues; an empty list if no queues are held
abbrev pub queues_held : Option Held → List LiveQueue
queues_held held = option_map_or (λ h. (live_of h).queues) held []

-- the held rows of changes
abbrev pub changes_held : HeldChanges → List ChangeRow
changes_held h = change_table.changes_of h.table

-- the table of changes satisfies its invariant
abbrev pub AreKeptChanges : HeldChanges → Type 0
AreKeptChanges h = change_table.IsKeptChangeTable h.table

-- there is room for n more changes with m needs in total
abbrev pub HasRoomFor : ℕ → ℕ → HeldChanges → Type 0
HasRoomFor n m h = change_table.HasRoomForChanges n m h.table

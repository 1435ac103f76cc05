-- What is read of tables.
use Rattle.std.specs.Prelude.{ℕ, ◌==◌, ◌≡◌, if◌then◌else◌, List, filter, Option, None, option_map, option_and_then}
use Rattle.std.specs.Prelude.{flat_map}
use Rattle.std.specs.List.{list_any}
use Rattle.gate_types.specs.declared.records.Build.{Build}
use Rattle.gate_types.specs.declared.records.Item.{Item}
use Rattle.gate_types.specs.declared.records.Ready.{Ready}
use Rattle.gate_types.specs.declared.rows.ChangeRow.{ChangeRow}
use Rattle.gate_types.specs.Tables.{change_row_in}
use Rattle.gate_memory.specs.Builds.{is_live_of}
use Rattle.gate_book_trait.specs.RowReads.{AreReady, ready_needing_in}
use Rattle.gate_memory.specs.declared.pairs.Pair.{Pair}

-- a change as a ready one, if it is ready and needs another
abbrev pub if_needing : ℕ → ChangeRow → Option Ready
if_needing n r =
    if list_any (λ m. m == n) r.change.needs
    then option_map (λ a. record { approval = a; change = r.change.number }) r.approval
    else None

-- so the change that a pair names second
abbrev pub needing_by : List ChangeRow → ℕ → Pair → Option Ready
needing_by rows n p = option_and_then (if_needing n) (change_row_in rows p.second)

-- a list is those that need a change of whatever ready list the rows tell
abbrev pub IsWhatRowsTellOf : List ChangeRow → ℕ → List Ready → Type 0
IsWhatRowsTellOf rows n found = (ready : List Ready) → AreReady rows ready → found ≡ ready_needing_in rows n ready

-- the live builds of these items, item by item, each one's by number
abbrev pub builds_of_rows : List Build → List Item → List Build
builds_of_rows builds items = flat_map (λ i. filter (is_live_of i.serial) builds) items

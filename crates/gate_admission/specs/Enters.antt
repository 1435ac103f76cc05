-- For the inside alone: the row of a change that enters a queue, by the rows that stand there.
use Rattle.std.specs.Prelude.{ℕ, Bool, true, false, not, ◌||◌, ◌==◌, ◌+◌, ◌-◌, ◌≡◌, if◌then◌else◌, List, [], ◌∷◌}
use Rattle.std.specs.Prelude.{length, slice_get, Option, None, Some, find, is_some, option_map, option_and_then}
use Rattle.std.specs.List.{list_all}
use Rattle.std.specs.Option.{option_map_or}
use Rattle.gate_types.specs.declared.records.Item.{Item as ItemRow}
use Rattle.gate_types.specs.declared.records.Need.{Need}
use Rattle.gate_types.specs.declared.records.Plan.{Plan}
use Rattle.gate_types.specs.declared.records.Change.{Change}
use Rattle.gate_types.specs.declared.edits.Edit.{Edit}
use Rattle.gate_types.specs.declared.edits.Edit.TheVariants as edit
use Rattle.gate_types.specs.declared.edits.Counter.TheVariants as counter
use Rattle.gate_types.specs.Settings.{Settings}
use Rattle.gate_types.specs.State.{State, change_of}
use Rattle.gate_types.specs.Standing.{needs_of}
use Rattle.gate_book_trait.specs.Reads.{items_in}
use Rattle.gate_admission.specs.Known.{has_place}

-- the row of a change
abbrev pub row_of_change : ℕ → List ItemRow → Option ItemRow
row_of_change change rows = find (λ r. r.change == change) rows

-- the last row
abbrev pub last_row : List ItemRow → Option ItemRow
last_row rows = slice_get rows (length rows - 1)

-- a need has landed, or the row of its change isn't failing
abbrev pub is_met_by_rows : List ItemRow → Need → Bool
is_met_by_rows rows n = n.landed || option_map_or (λ r. not r.failing) (row_of_change n.change rows) false

-- whether it has landed or that row isn't failing; none where it neither has landed nor has a row
abbrev pub met_by_rows : List ItemRow → Need → Option Bool
met_by_rows rows n = if n.landed then Some true else option_map (λ r. not r.failing) (row_of_change n.change rows)

-- a need has landed or has a row
abbrev pub is_there : List ItemRow → Need → Bool
is_there rows n = is_some (met_by_rows rows n)

-- whether each of some needs has landed or its row isn't failing; none just where one neither has landed nor has a row
abbrev pub AreMetBy : List ItemRow → List Need → Option Bool → Type 0
AreMetBy rows needs (Some fine) =
    (list_all (is_there rows) needs ≡ true) × (fine ≡ list_all (is_met_by_rows rows) needs)
AreMetBy rows needs None = list_all (is_there rows) needs ≡ false

-- the same, where the queue of a name has room too; none just where it has no place for a change of these needs
abbrev pub AreMetWithRoom : Settings → State → List ℕ → List Need → Option Bool → Type 0
AreMetWithRoom c s name needs (Some fine) =
    (has_place s name needs ≡ true) × (fine ≡ list_all (is_met_by_rows (items_in c s name)) needs)
AreMetWithRoom c s name needs None = has_place s name needs ≡ false

-- what is ahead behind a row
abbrev pub ahead_after : ItemRow → Option ℕ
ahead_after r = if r.failing then r.ahead else Some r.serial

-- what is ahead behind these rows, by the last of them
abbrev pub ahead_of_next : List ItemRow → Option ℕ
ahead_of_next rows = option_and_then ahead_after (last_row rows)

-- the row of a change that enters behind these rows
abbrev pub entering_row : State → List ItemRow → ℕ → ItemRow
entering_row s rows n = record {
  serial = s.counters.order + 1;
  change = n;
  revision = (change_of s n).revision;
  ahead = ahead_of_next rows;
  failing = not (list_all (is_met_by_rows rows) (needs_of s n));
}

-- a change is ready no longer: where the edits before put its row, one more put replaces that
abbrev pub unready : Bool → Change → Edit
unready is_put k = if is_put then edit.PutChange k None else edit.SetStage k.number k.stage

-- the edits of a change that enters a queue with this row and this plan
abbrev pub entering_edits : List ℕ → Bool → Change → ItemRow → Plan → List Edit
entering_edits name is_put k row plan =
    edit.PutItem name row ∷ edit.PutPlan plan ∷ unready is_put k ∷ edit.SetCounter counter.Order row.serial ∷ []

-- What a visit tells, by what it makes of the item.
use Rattle.std.proofs.Common.{◌≡◌, ℕ, Bool, ◌||◌, Option, is_some, List, ◌++◌}
use Rattle.gate_types.specs.Window.{Bounds}
use Rattle.gate_types.specs.declared.records.Item.{Item as ItemRow}
use Rattle.gate_types.specs.declared.records.Verdict.{Verdict}
use Rattle.gate_walk.specs.Walk.{Seen, Carry, fails, cuts, verdict_by, stops_of, row_edits, window_edits_by}
use Rattle.gate_walk.specs.Walk.{visit_edits}

-- the row with this mark
abbrev row_with : Carry → Seen → Bool → ItemRow
row_with k v failing = record {
  serial = v.row.serial;
  change = v.row.change;
  revision = v.row.revision;
  ahead = k.ahead;
  failing = failing;
}

pub told_is : (name : List ℕ) (bounds : Bounds) (k : Carry) (v : Seen) (cut failing : Bool) (verdict : Option Verdict) →
    cut ≡ cuts k v → failing ≡ fails k v → verdict ≡ verdict_by k v →
    (stops_of k.resets (is_some verdict || cut) v.builds ++ row_edits name k.reports v.row (row_with k v failing) verdict)
    ++ window_edits_by name bounds k.window verdict ≡ visit_edits name bounds k v
told_is name bounds k v cut failing verdict ec ef ev =
    λ i. (stops_of k.resets (is_some (ev i) || ec i) v.builds ++ row_edits name k.reports v.row (row_with k v (ef i)) (ev i))
    ++ window_edits_by name bounds k.window (ev i)

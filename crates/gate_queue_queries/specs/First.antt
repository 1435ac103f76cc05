-- What is read of a file of schema 1, where it is made one of schema 2.
use Rattle.std.specs.Prelude.{◌≡◌, ◌==◌, ℕ, pos, IsTrue, List, [], ◌∷◌, Some, find, option_map, IsPermutation}
use Rattle.sqlite.specs.Order.{Row}
use Rattle.sqlite.specs.Schema.{Schema}
use Rattle.sqlite.specs.State.{State}
use Rattle.sqlite.specs.declared.types.Value.TheVariants.{Int}
use Rattle.gate_types.specs.Tables.{numbered_landings}
use Rattle.gate_types.specs.declared.records.Landing.{Landing}
use Rattle.gate_types.specs.declared.rows.ChangeRow.{ChangeRow}
use Rattle.gate_rows.specs.Matches.{landings_of}
use Rattle.gate_schema.specs.Rows.{IsKeyed, IsListed, Stored, change_key, change_table_row, item_key, item_table_row}
use Rattle.gate_schema.specs.Rows.{landing_columns}
use Rattle.gate_schema.specs.Schema.{schema_with}

-- the tables and indexes of schema 1: all but the last two tables
abbrev pub first_schema : Schema
first_schema = schema_with 10 16

-- the changes, the items and the landings of a file of schema 1
pub record ShowsFirst (s : State) (b : Stored) : Type 0 where
  pub schema_is : s.now.schema ≡ first_schema
  pub change : IsKeyed change_key change_table_row (s.now.trees 7) b.changes
  pub item : IsKeyed item_key item_table_row (s.now.trees 11) b.items
  pub landing : IsListed landing_columns (s.now.trees 14) b.landings

-- while the connection answers at all, it shows these
abbrev pub ShowsFirstIfOpen : State → Stored → Type 0
ShowsFirstIfOpen s b = IsTrue s.is_open → ShowsFirst s b

-- two numbers of a row
abbrev pub pair_shown : ℕ → ℕ → Row
pair_shown m n = Int (pos m) ∷ Int (pos n) ∷ []

-- the tables hold these landings of a queue, the first at place 1
abbrev pub HoldsLandings : Stored → List ℕ → List Landing → Type 0
HoldsLandings b name ls = IsPermutation (landings_of name b.landings) (numbered_landings 0 ls)

-- the project of a change has this name
abbrev pub IsProjectOf : List ChangeRow → ℕ → List ℕ → Type 0
IsProjectOf rows n name =
    option_map (λ (r : ChangeRow). r.change.project) (find (λ (r : ChangeRow). change_key r == n) rows) ≡ Some name

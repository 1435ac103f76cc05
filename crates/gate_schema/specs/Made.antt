-- Which schema a text makes of which.
use Rattle.std.specs.Prelude.{◌≡◌, ◌⊎◌, ℕ, List, [], ◌∷◌, false, None, Some, Result, Ok, Err, slice_get}
use Rattle.sqlite.specs.Change.{created, indexed}
use Rattle.sqlite.specs.Command.{Command}
use Rattle.sqlite.specs.Command.TheVariants.{CreateTable, CreateIndex}
use Rattle.sqlite.specs.Compile.{table_defined_by, index_defined_by}
use Rattle.sqlite.specs.Does.{lacks_sequence}
use Rattle.sqlite.specs.Listing.{understood}
use Rattle.sqlite.specs.Schema.{Schema}
use Rattle.sqlite.specs.State.{text_of}
use Rattle.sqlite.specs.Table.{Table}
use Rattle.sqlite_resolve.specs.declared.compiled.Compiled.{Compiled}
use Rattle.sqlite_resolve.specs.declared.error.CompileError.{CompileError}
use Rattle.sqlite_schema.specs.declared.schema.Index.{Index}

-- the text is this command alone, with no RETURNING and no clock
abbrev pub IsPlainly : Result Compiled CompileError → Command → List ℕ → Type 0
IsPlainly (Ok c) command sql = (c.command ≡ command) × (c.returning ≡ None) × (c.formats ≡ []) × (text_of sql c ≡ sql)
IsPlainly (Err e) command sql = ⊥

-- the text adds a table, and makes one schema of the other
pub record MakesTableOf (sql : List ℕ) (s t : Schema) : Type 0 where
  pub table : Table
  pub plain : IsPlainly (understood s sql) CreateTable sql
  pub defined : table_defined_by sql ≡ Ok table
  pub uncounted : lacks_sequence t ≡ false
  pub is : created s table ≡ t

-- the same of an index on the table at a place
pub record MakesIndexOf (sql : List ℕ) (s t : Schema) : Type 0 where
  pub at : ℕ
  pub table : Table
  pub index : Index
  pub plain : IsPlainly (understood s sql) (CreateIndex at) sql
  pub found : slice_get s.tables at ≡ Some table
  pub defined : index_defined_by table sql ≡ Ok index
  pub is : indexed s table index ≡ t

-- the text makes one schema of the other
abbrev pub MakesOf : List ℕ → Schema → Schema → Type 0
MakesOf sql s t = MakesTableOf sql s t ⊎ MakesIndexOf sql s t

-- the texts do so in turn
abbrev pub MakeInTurn : List (List ℕ) → Schema → Schema → Type 0
MakeInTurn [] s t = s ≡ t
MakeInTurn (sql ∷ more) s t = (mid : Schema) × MakesOf sql s mid × MakeInTurn more mid t

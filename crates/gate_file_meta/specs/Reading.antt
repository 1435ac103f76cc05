-- What reading `meta` shows, and why it fails.
use Rattle.std.specs.Prelude.{◌≡◌, ◌≢◌, ◌⊎◌, ⊤, ℕ, List, [], ◌∷◌, codes, Bool, true, false, Ok, Err, Option, Some}
use Rattle.std.specs.Prelude.{None, Result, map, IsPermutation}
use Rattle.sqlite.specs.Clock.{timed}
use Rattle.sqlite.specs.Effect.{Database, Reads as Answers}
use Rattle.sqlite.specs.Listing.{IsSourceOf, reads_listing, understood}
use Rattle.sqlite.specs.Order.{Row}
use Rattle.sqlite.specs.Schema.{Schema}
use Rattle.sqlite.specs.Tree.{Trees}
use Rattle.sqlite.specs.declared.error.Error.{Error}
use Rattle.sqlite.specs.declared.error.Error.TheVariants.{SqliteFailure}
use Rattle.sqlite.specs.declared.error.ErrorCode.TheVariants as code
use Rattle.sqlite_catalog.specs.Listing.{Lists}
use Rattle.sqlite_trees.specs.Objects.{catalog_tree}
use Rattle.sqlite_resolve.specs.declared.compiled.Compiled.{Compiled}
use Rattle.sqlite_resolve.specs.declared.error.CompileError.{CompileError}
use Rattle.sqlite_value.specs.Order.{column}
use Rattle.gate_schema.specs.Rows.{pair_of_words, schema_version}
use Rattle.gate_types.specs.Adopt.{may_adopt}
use Rattle.gate_types.specs.Settings.{Settings}
use Rattle.gate_types.specs.SettingsText.{settings_text}
use Rattle.gate_kept_settings.specs.Told.{SaysSettings}
use Rattle.gate_file_meta.specs.Opens.{IsJudged, MayOpen}
use Rattle.gate_types.specs.declared.open_fault.OpenFault.{OpenFault}
use Rattle.gate_types.specs.declared.open_fault.OpenFault.TheVariants as fault

-- the query that reads it
abbrev pub meta_sql : List ℕ
meta_sql = codes "SELECT k, v FROM meta ORDER BY k"

-- the rows of a gate's file of this version, with these settings
abbrev pub meta_rows : List ℕ → List ℕ → List Row
meta_rows version settings =
    pair_of_words (codes "format") (codes "gate") ∷ pair_of_words (codes "schema") version ∷
    pair_of_words (codes "settings") settings ∷ []

-- a query of the text, without parameters, answers these rows, whatever the tables, the indexes and the views are
pub record Yields (sql : List ℕ) (db : Database) (rows : List Row) : Type 0 where
  pub text : Compiled
  pub is_text : understood db.schema sql ≡ Ok text
  -- the time, if the text asks for it
  pub now : ℕ
  -- what it reads: the database, or the list of its objects
  pub source : Database
  pub is_source : IsSourceOf (reads_listing db.schema sql) db source
  pub answers : Answers text.command source (timed [] text.formats now) rows

-- the query shows these rows
abbrev pub ShowsMeta : Database → List ℕ → List ℕ → Type 0
ShowsMeta db version settings = Yields meta_sql db (meta_rows version settings)

-- `meta`, the first table, holds these rows, in some order
abbrev pub HoldsMeta : Trees → List ℕ → List ℕ → Type 0
HoldsMeta db version settings =
    IsPermutation (map (λ (r : Row). column r 1 ∷ column r 2 ∷ []) (db 0)) (meta_rows version settings)

-- where `Are v k` says that the file is of version v and keeps settings of text k: it opens with these settings only
-- if it is of our version and keeps them, or some in whose place they may be taken; a fault blames the version, or the
-- settings, only where they are others, and these not such
abbrev pub IsJudgedOf : Option OpenFault → (List ℕ → List ℕ → Type 0) → Settings → Type 0
IsJudgedOf None Are d = (kept : List ℕ) × MayOpen kept d × Are schema_version kept
IsJudgedOf (Some fault.WrongFile) Are d = ⊤
IsJudgedOf (Some fault.OtherSchema) Are d =
    (version : List ℕ) × (kept : List ℕ) × (version ≢ schema_version) × Are version kept
IsJudgedOf (Some fault.OtherSettings) Are d = (kept : List ℕ) × (MayOpen kept d → ⊥) × Are schema_version kept
IsJudgedOf (Some fault.Unavailable) Are d = ⊤

-- a store with these trees is told so: under the schema that they list
pub record IsToldByTrees (fault : Option OpenFault) (trees : Trees) (d : Settings) : Type 0 where
  pub schema : Schema
  pub lists : Lists (trees catalog_tree) schema
  pub told : IsJudgedOf fault (ShowsMeta (record { schema = schema; trees = trees })) d

-- the fault that was met, if one was
abbrev pub met : {X : Type 0} → Result X OpenFault → Option OpenFault
met (Ok x) = None
met (Err f) = Some f

-- what is found of a file of this version that keeps settings of this text: that it keeps these, or others in whose
-- place they may be taken, or why it isn't opened
abbrev pub IsFound : Result (Option Settings) OpenFault → List ℕ → List ℕ → Settings → Type 0
IsFound (Ok None) version kept d = (version ≡ schema_version) × (kept ≡ settings_text d)
IsFound (Ok (Some c)) version kept d =
    (version ≡ schema_version) × (kept ≢ settings_text d) × SaysSettings kept c × (may_adopt c d ≡ true)
IsFound (Err f) version kept d = IsJudged (Some f) version kept d

-- and where `Are v k` says of which version it is, and which settings it keeps
abbrev pub IsFoundOf : Result (Option Settings) OpenFault → (List ℕ → List ℕ → Type 0) → Settings → Type 0
IsFoundOf (Ok None) Are d = Are schema_version (settings_text d)
IsFoundOf (Ok (Some c)) Are d =
    (kept : List ℕ) × (kept ≢ settings_text d) × SaysSettings kept c × (may_adopt c d ≡ true) × Are schema_version kept
IsFoundOf (Err f) Are d = IsJudgedOf (Some f) Are d

-- what is found of a kept text that is another
abbrev pub IsMet : Result Settings OpenFault → List ℕ → Settings → Type 0
IsMet (Ok c) kept d = SaysSettings kept c × (may_adopt c d ≡ true)
IsMet (Err fault.OtherSettings) kept d = (c : Settings) → SaysSettings kept c → may_adopt c d ≡ true → ⊥
IsMet (Err f) kept d = f ≡ fault.Unavailable

-- it isn't so that the file keeps other settings in whose place these may be taken
abbrev pub HasNoneToAdopt : Database → Settings → Type 0
HasNoneToAdopt db d = (kept : List ℕ) (c : Settings) → ShowsMeta db schema_version kept → kept ≢ settings_text d →
    SaysSettings kept c → may_adopt c d ≡ true → ⊥

-- there is no `meta` to read: no such table, or none with these columns
abbrev pub HasNoMeta : Schema → Type 0
HasNoMeta schema = (fault : CompileError) × (understood schema meta_sql ≡ Err fault)

-- it isn't opened: it is no gate's file, where nothing failed
abbrev pub IsUnread : Option OpenFault → Type 0
IsUnread None = ⊥
IsUnread (Some f) = (f ≡ fault.WrongFile) ⊎ (f ≡ fault.Unavailable)

-- the errors that say nothing of the file: memory, the disk, its size or the limit of steps failed
abbrev pub says_nothing : Error → Bool
says_nothing (SqliteFailure code.OutOfMemory) = true
says_nothing (SqliteFailure code.SystemIoFailure) = true
says_nothing (SqliteFailure code.DatabaseCorrupt) = true
says_nothing (SqliteFailure code.DiskFull) = true
says_nothing (SqliteFailure code.Closed) = true
says_nothing (SqliteFailure code.TooBig) = true
says_nothing (SqliteFailure code.OperationInterrupted) = true
says_nothing _ = false

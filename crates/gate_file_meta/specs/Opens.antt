-- Why a file isn't opened, or made.
use Rattle.std.specs.Prelude.{◌≡◌, ◌≢◌, ◌⊎◌, ⊤, ℕ, List, [], ◌∷◌, codes, Bool, true, false, Option, Some, None}
use Rattle.std.specs.List.{list_any}
use Rattle.sqlite.specs.Schema.{Schema}
use Rattle.sqlite.specs.Tree.{Trees}
use Rattle.sqlite.specs.Table.{Table}
use Rattle.sqlite_schema.specs.declared.schema.Index.{Index}
use Rattle.sqlite_schema.specs.declared.schema.View.{View}
use Rattle.sqlite_catalog.specs.Change.{is_used}
use Rattle.gate_types.specs.Adopt.{may_adopt}
use Rattle.gate_types.specs.Settings.{Settings}
use Rattle.gate_types.specs.SettingsText.{settings_text}
use Rattle.gate_kept_settings.specs.Told.{SaysSettings}
use Rattle.gate_schema.specs.Rows.{IsFixed, pair_of_words, schema_version}
use Rattle.gate_schema.specs.Schema.{meta_table_at}
use Rattle.gate_types.specs.declared.open_fault.OpenFault.{OpenFault}
use Rattle.gate_types.specs.declared.open_fault.OpenFault.TheVariants as fault

-- ---- opening

-- a schema whose first table is `meta`
abbrev pub with_meta : List Table → List Index → List View → Schema
with_meta tables indexes views = record { tables = meta_table_at 0 ∷ tables; indexes = indexes; views = views }

-- `meta` holds the three rows of a gate's file, with this version and these settings
abbrev pub IsMeta : Trees → List ℕ → List ℕ → Type 0
IsMeta db version settings = IsFixed (
    pair_of_words (codes "format") (codes "gate") ∷ pair_of_words (codes "schema") version ∷
    pair_of_words (codes "settings") settings ∷ []) (db 0)

-- the kept text is that of these settings, or of some in whose place they may be taken
abbrev pub MayOpen : List ℕ → Settings → Type 0
MayOpen kept d = (kept ≡ settings_text d) ⊎ ((c : Settings) × SaysSettings kept c × (may_adopt c d ≡ true))

-- no fault, or which one, of a file of this version that keeps settings of this text, opened with these
abbrev pub IsJudged : Option OpenFault → List ℕ → List ℕ → Settings → Type 0
IsJudged None version kept d = (version ≡ schema_version) × MayOpen kept d
IsJudged (Some fault.WrongFile) version kept d = ⊥
IsJudged (Some fault.OtherSchema) version kept d = version ≢ schema_version
IsJudged (Some fault.OtherSettings) version kept d = (version ≡ schema_version) × (MayOpen kept d → ⊥)
IsJudged (Some fault.Unavailable) version kept d = ⊤

-- ---- making

-- the names of the gate's tables and indexes
abbrev pub gate_names : List (List ℕ)
gate_names =
    codes "meta" ∷ codes "counter" ∷ codes "queue" ∷ codes "change" ∷ codes "need" ∷ codes "item" ∷ codes "build" ∷
    codes "landing" ∷ codes "report" ∷ codes "delivery" ∷ codes "change_approval" ∷ codes "need_needed" ∷
    codes "item_queue" ∷ codes "build_serial" ∷ codes "item_job" ∷ codes "item_fast" ∷ []

-- a table, an index or a view has one of these names
abbrev pub is_taken : Schema → Bool
is_taken schema = list_any (is_used schema) gate_names

-- no fault, or which one, where the names are taken or not, and a transaction is under way or not
abbrev pub IsMade : Option OpenFault → Bool → Bool → Type 0
IsMade None taken inside = taken ≡ false
IsMade (Some fault.WrongFile) taken inside = taken ≡ true
IsMade (Some fault.OtherSchema) taken inside = ⊥
IsMade (Some fault.OtherSettings) taken inside = ⊥
IsMade (Some fault.Unavailable) taken inside = (taken ≡ false) ⊎ (inside ≡ true)

-- ---- migrating

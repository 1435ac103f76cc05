-- How a file stands that is to be migrated, and what is answered of it.
use Rattle.std.specs.Prelude.{◌≡◌, ◌≢◌, ⊤, if◌then◌else◌, ℕ, List, [], ◌∷◌, codes, Bool, true, false, Result, Ok, Err}
use Rattle.std.specs.List.{list_any}
use Rattle.sqlite.specs.Schema.{Schema}
use Rattle.sqlite_catalog.specs.Change.{is_used}
use Rattle.gate_schema.specs.Rows.{first_version, schema_version}
use Rattle.gate_types.specs.Settings.{Settings}
use Rattle.gate_types.specs.SettingsText.{settings_text}
use Rattle.gate_types.specs.declared.open_fault.OpenFault.{OpenFault}
use Rattle.gate_types.specs.declared.open_fault.OpenFault.TheVariants as fault
use Rattle.gate_migration.specs.declared.migrating.Migrated.{Migrated}
use Rattle.gate_migration.specs.declared.migrating.Migrated.TheVariants as migrated

-- a file of this version that keeps these settings, asked with others, is of schema 1 and to be migrated, or of
-- schema 2 already, or why neither
abbrev pub IsStanding : Result Bool OpenFault → List ℕ → List ℕ → List ℕ → Type 0
IsStanding (Ok true) version kept settings = (version ≡ first_version) × (kept ≡ settings)
IsStanding (Ok false) version kept settings = version ≡ schema_version
IsStanding (Err fault.WrongFile) version kept settings = ⊥
IsStanding (Err fault.OtherSchema) version kept settings = (version ≢ first_version) × (version ≢ schema_version)
IsStanding (Err fault.OtherSettings) version kept settings = (version ≡ first_version) × (kept ≢ settings)
IsStanding (Err fault.Unavailable) version kept settings = ⊤

-- the names of the two tables that schema 2 adds
abbrev pub new_names : List (List ℕ)
new_names = codes "item_job" ∷ codes "item_fast" ∷ []

-- a table, an index or a view has one of them
abbrev pub is_newly_taken : Schema → Bool
is_newly_taken schema = list_any (is_used schema) new_names

-- what is answered of a file of this version that keeps settings of this text, asked with these, where one of the new
-- names is taken or not
abbrev pub IsMigrated : Result Migrated OpenFault → Bool → List ℕ → List ℕ → Settings → Type 0
IsMigrated (Ok migrated.Done) taken version kept d =
    (version ≡ first_version) × (taken ≡ false) × (kept ≡ settings_text d)
IsMigrated (Ok migrated.Already) taken version kept d = version ≡ schema_version
IsMigrated (Err fault.WrongFile) taken version kept d = (version ≡ first_version) × (taken ≡ true)
IsMigrated (Err fault.OtherSchema) taken version kept d = (version ≢ first_version) × (version ≢ schema_version)
IsMigrated (Err fault.OtherSettings) taken version kept d =
    (version ≡ first_version) × (taken ≡ false) × (kept ≢ settings_text d)
IsMigrated (Err fault.Unavailable) taken version kept d = ⊤

-- why a file isn't migrated: a name that is taken comes before other settings
abbrev pub fault_before : Bool → OpenFault → OpenFault
fault_before taken fault.OtherSettings = if taken then fault.WrongFile else fault.OtherSettings
fault_before taken f = f

-- where `Are v k` says that the file is of version v and keeps settings of text k: how it stands is told only where
-- it is so
abbrev pub IsStandingOf : Result Bool OpenFault → (List ℕ → List ℕ → Type 0) → List ℕ → Type 0
IsStandingOf (Err fault.WrongFile) Are settings = ⊤
IsStandingOf (Err fault.Unavailable) Are settings = ⊤
IsStandingOf result Are settings =
    (version : List ℕ) × (kept : List ℕ) × IsStanding result version kept settings × Are version kept

-- and so what is answered to who wants it migrated
abbrev pub IsMigratedOf : Result Migrated OpenFault → Bool → (List ℕ → List ℕ → Type 0) → Settings → Type 0
IsMigratedOf (Err fault.WrongFile) taken Are d = ⊤
IsMigratedOf (Err fault.Unavailable) taken Are d = ⊤
IsMigratedOf result taken Are d =
    (version : List ℕ) × (kept : List ℕ) × IsMigrated result taken version kept d × Are version kept

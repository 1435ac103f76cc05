-- From how a file stands to what who migrates it is answered.
use Rattle.std.proofs.Common.{◌≡◌, inl, inr, Bool, true, false, ℕ, List, Some, Ok, Err, Result, ap, bytes_eq, codes}
use Rattle.std.proofs.Common.{length, refl, slice_index_or, subst, sym, true≢false, ◌∙◌}
use Rattle.std.specs.Prelude.{◌≢◌, IfErr, IsTrue, MatchResult, OnOk}
use Rattle.std.proofs.lemmas.Slice.Eq.{bytes_eq-Decides}
use Rattle.sqlite.specs.Effect.{Database}
use Rattle.sqlite.specs.Order.{Row}
use Rattle.sqlite.specs.State.{State}
use Rattle.sqlite.specs.Tree.{Trees}
use Rattle.gate_types.specs.Migrate.{migrated_content}
use Rattle.gate_types.specs.Once.{Content}
use Rattle.gate_types.specs.Settings.{Settings}
use Rattle.gate_types.specs.SettingsText.{settings_text}
use Rattle.gate_types.specs.declared.open_fault.OpenFault.{OpenFault}
use Rattle.gate_types.specs.declared.open_fault.OpenFault.TheVariants as fault
use Rattle.gate_schema.specs.Rows.{pair_of_words, first_version, schema_version}
use Rattle.gate_rows.specs.Matches.{StandsFor}
use Rattle.gate_found_rows.specs.Finds.{Stays}
use Rattle.gate_found_rows.proofs.StayLemmas.{stays_then}
use Rattle.gate_table_laws.specs.Held.{IsShownFor}
use Rattle.gate_file_changes.specs.Making.{IsUpAndCommitted}
use Rattle.gate_migration.specs.Migrates.{Carries, HasNoneToMigrate}
use Rattle.gate_migration.specs.Standing.{IsMigrated, IsStanding, fault_before, is_newly_taken}
use Rattle.gate_migration.specs.Standing.{IsMigratedOf, IsStandingOf}
use Rattle.gate_file_meta.specs.Reading.{IsUnread, ShowsMeta, meta_rows}
use Rattle.gate_migration.specs.declared.migrating.Migrated.{Migrated}
use Rattle.gate_migration.specs.declared.migrating.Migrated.TheVariants as migrated
use Rattle.gate_file_meta.proofs.JudgeLemmas.{three_are}

-- ---- what is told of rows

-- how a file stands is told where it is so
standing_told : (r : Result Bool OpenFault) (Are : List ℕ → List ℕ → Type 0) (version kept settings : List ℕ) → Are version kept → IsStanding r version kept settings → IsStandingOf r Are settings
standing_told (Ok t) Are version kept settings are h = (version, kept, h, are)
standing_told (Err fault.WrongFile) Are version kept settings are h = tt
standing_told (Err fault.OtherSchema) Are version kept settings are h = (version, kept, h, are)
standing_told (Err fault.OtherSettings) Are version kept settings are h = (version, kept, h, are)
standing_told (Err fault.Unavailable) Are version kept settings are h = tt

-- and so of three rows
pub rows_standing : (rows : List Row) (a b c : Row) (r : Result Bool OpenFault) (format version kept settings : List ℕ) → length rows ≡ 3
    → a ≡ slice_index_or rows 0 a → b ≡ slice_index_or rows 1 b → c ≡ slice_index_or rows 2 c
    → a ≡ pair_of_words (codes "format") format → b ≡ pair_of_words (codes "schema") version → c ≡ pair_of_words (codes "settings") kept
    → bytes_eq format (codes "gate") ≡ true → IsStanding r version kept settings → IsStandingOf r (λ v k. rows ≡ meta_rows v k) settings
rows_standing rows a b c r format version kept settings three p q s pa pb pc gate h =
    let is = (bytes_eq-Decides format (codes "gate")).0 gate in
    let are : rows ≡ meta_rows version kept = three_are rows a b c three p q s ∙ rw (pa, pb, pc, is) in
    standing_told r (λ v k. rows ≡ meta_rows v k) version kept settings are h

-- what is told of something is told of what follows
pub standing_so : (r : Result Bool OpenFault) (P Q : List ℕ → List ℕ → Type 0) (settings : List ℕ) → ((version kept : List ℕ) → P version kept → Q version kept) → IsStandingOf r P settings → IsStandingOf r Q settings
standing_so (Ok t) P Q settings f h = (h.0, h.1, h.2, f h.0 h.1 h.3)
standing_so (Err fault.WrongFile) P Q settings f h = tt
standing_so (Err fault.OtherSchema) P Q settings f h = (h.0, h.1, h.2, f h.0 h.1 h.3)
standing_so (Err fault.OtherSettings) P Q settings f h = (h.0, h.1, h.2, f h.0 h.1 h.3)
standing_so (Err fault.Unavailable) P Q settings f h = tt

-- ---- which version a file is of

versions_differ : schema_version ≡ first_version → ⊥
versions_differ h = let e : false ≡ true = ap (λ l. bytes_eq l first_version) h in true≢false (sym e)

-- a file of schema 2 isn't of schema 1
pub not_first : (t : Bool) (kept settings : List ℕ) → t ≡ true → IsStanding (Ok t) schema_version kept settings → ⊥
not_first t kept settings is h = versions_differ (subst (λ t. IsStanding (Ok t) schema_version kept settings) is h).0

-- and the other way round
pub not_second : (t : Bool) (kept settings : List ℕ) → t ≡ false → IsStanding (Ok t) first_version kept settings → ⊥
not_second t kept settings is h = versions_differ (sym (subst (λ t. IsStanding (Ok t) first_version kept settings) is h))

-- a file of schema 1 and of these settings isn't refused
pub first_fails : (f : OpenFault) (kept settings : List ℕ) → kept ≡ settings → IsStanding (Err f) first_version kept settings → f ≡ fault.Unavailable
first_fails fault.WrongFile kept settings same h = absurd h
first_fails fault.OtherSchema kept settings same h = absurd (h.0 refl)
first_fails fault.OtherSettings kept settings same h = absurd (h.1 same)
first_fails fault.Unavailable kept settings same h = refl

-- nor is one of schema 2
pub second_fails : (f : OpenFault) (kept settings : List ℕ) → IsStanding (Err f) schema_version kept settings → f ≡ fault.Unavailable
second_fails fault.WrongFile kept settings h = absurd h
second_fails fault.OtherSchema kept settings h = absurd (h.1 refl)
second_fails fault.OtherSettings kept settings h = absurd (versions_differ h.0)
second_fails fault.Unavailable kept settings h = refl

-- ---- a file of schema 1 with these settings

-- its version and its settings
first_is : (t : Bool) (version kept settings : List ℕ) → t ≡ true → IsStanding (Ok t) version kept settings → (version ≡ first_version) × (kept ≡ settings)
first_is t version kept settings is h = subst (λ u. IsStanding (Ok u) version kept settings) is h

-- where a new name is taken it is refused
pub taken_judged : (t : Bool) (taken : Bool) (version kept : List ℕ) (d : Settings) → t ≡ true → taken ≡ true → IsStanding (Ok t) version kept (settings_text d) → IsMigrated (Err fault.WrongFile) taken version kept d
taken_judged t taken version kept d is took h = ((first_is t version kept (settings_text d) is h).0, took)

-- else it is migrated, or memory, the disk or its size failed
pub carried_judged : (t : Bool) (r : Result Migrated OpenFault) (taken : Bool) (version kept : List ℕ) (d : Settings) → t ≡ true → taken ≡ false
    → MatchResult r (λ m. m ≡ migrated.Done) (λ f. f ≡ fault.Unavailable) → IsStanding (Ok t) version kept (settings_text d) → IsMigrated r taken version kept d
carried_judged t (Ok migrated.Done) taken version kept d is free answer h = let both = first_is t version kept (settings_text d) is h in (both.0, free, both.1)
carried_judged t (Ok migrated.Already) taken version kept d is free answer h = absurd cc
carried_judged t (Err fault.WrongFile) taken version kept d is free answer h = absurd cc
carried_judged t (Err fault.OtherSchema) taken version kept d is free answer h = absurd cc
carried_judged t (Err fault.OtherSettings) taken version kept d is free answer h = absurd cc
carried_judged t (Err fault.Unavailable) taken version kept d is free answer h = tt

-- and that is told where it is so
pub carried_told : (t : Bool) (r : Result Migrated OpenFault) (taken : Bool) (Are : List ℕ → List ℕ → Type 0) (d : Settings) → t ≡ true → taken ≡ false
    → MatchResult r (λ m. m ≡ migrated.Done) (λ f. f ≡ fault.Unavailable) → IsStandingOf (Ok t) Are (settings_text d) → IsMigratedOf r taken Are d
carried_told t (Ok migrated.Done) taken Are d is free answer h = (h.0, h.1, carried_judged t (Ok migrated.Done) taken h.0 h.1 d is free answer h.2, h.3)
carried_told t (Ok migrated.Already) taken Are d is free answer h = absurd cc
carried_told t (Err fault.WrongFile) taken Are d is free answer h = tt
carried_told t (Err fault.OtherSchema) taken Are d is free answer h = absurd cc
carried_told t (Err fault.OtherSettings) taken Are d is free answer h = absurd cc
carried_told t (Err fault.Unavailable) taken Are d is free answer h = tt

-- ---- one of schema 2

pub already_judged : (t : Bool) (taken : Bool) (version kept : List ℕ) (d : Settings) → t ≡ false → IsStanding (Ok t) version kept (settings_text d) → IsMigrated (Ok migrated.Already) taken version kept d
already_judged t taken version kept d is h = subst (λ u. IsStanding (Ok u) version kept (settings_text d)) is h

pub already_told : (t : Bool) (taken : Bool) (Are : List ℕ → List ℕ → Type 0) (d : Settings) → t ≡ false → IsStandingOf (Ok t) Are (settings_text d) → IsMigratedOf (Ok migrated.Already) taken Are d
already_told t taken Are d is h = (h.0, h.1, already_judged t taken h.0 h.1 d is h.2, h.3)

-- ---- a fault

pub fault_judged : (f : OpenFault) (taken : Bool) (version kept : List ℕ) (d : Settings) → IsStanding (Err f) version kept (settings_text d) → IsMigrated (Err (fault_before taken f)) taken version kept d
fault_judged fault.WrongFile taken version kept d h = absurd h
fault_judged fault.OtherSchema taken version kept d h = h
fault_judged fault.OtherSettings true version kept d h = (h.0, refl)
fault_judged fault.OtherSettings false version kept d h = (h.0, refl, h.1)
fault_judged fault.Unavailable taken version kept d h = tt

pub fault_told : (f : OpenFault) (taken : Bool) (Are : List ℕ → List ℕ → Type 0) (d : Settings) → IsStandingOf (Err f) Are (settings_text d) → IsMigratedOf (Err (fault_before taken f)) taken Are d
fault_told fault.WrongFile taken Are d h = tt
fault_told fault.OtherSchema taken Are d h = h
fault_told fault.OtherSettings true Are d h = tt
fault_told fault.OtherSettings false Are d h = (h.0, h.1, fault_judged fault.OtherSettings false h.0 h.1 d h.2, h.3)
fault_told fault.Unavailable taken Are d h = tt

-- where there is no `meta` to read it stays what it is
pub fault_unread : (f : OpenFault) (taken : Bool) → IsUnread (Some f) → IsUnread (Some (fault_before taken f))
fault_unread fault.WrongFile taken h = inl refl
fault_unread fault.OtherSchema taken h = absurd (elim h [ inl e ↦ cc | inr e ↦ cc ])
fault_unread fault.OtherSettings taken h = absurd (elim h [ inl e ↦ cc | inr e ↦ cc ])
fault_unread fault.Unavailable taken h = inr refl

-- ---- what carrying it out leaves

-- over a call that left the file as it was
pub done_from : (r : Result Migrated OpenFault) (old mid new : State) (c : Settings) (x : Content) → Stays old mid → MatchResult r (λ m. m ≡ migrated.Done) (λ f. f ≡ fault.Unavailable) → Carries mid new c x r
    → MatchResult r (λ m. (m ≡ migrated.Done) × IsShownFor new c (migrated_content c x)) (λ f. (f ≡ fault.Unavailable) × Stays old new)
done_from (Ok m) old mid new c x first is done = (is, done)
done_from (Err f) old mid new c x first is done = (is, stays_then old mid new first done.1)

-- what is committed is what is shown, so a crash leaves that
pub settled_from : (r : Result Migrated OpenFault) (mid new : State) (c : Settings) (x : Content) (Recovers : Trees → Type 0)
    → ((db : Trees) → IsTrue new.is_open → Recovers db → db ≡ new.committed.trees) → OnOk r (IsUpAndCommitted new) → Carries mid new c x r
    → OnOk r ((db : Trees) → Recovers db → StandsFor db c (migrated_content c x))
settled_from (Ok m) mid new c x Recovers recovered held done = λ db left.
    subst (λ trees. StandsFor trees c (migrated_content c x)) (sym (recovered db held.0 left ∙ ap (λ (d : Database). d.trees) held.1)) done.stands
settled_from (Err f) mid new c x Recovers recovered held done = tt

-- where it isn't one of those that there is nothing to migrate of
pub some_to_migrate : (db : Database) (d : Settings) (t : Bool) → t ≡ true → is_newly_taken db.schema ≡ false → IsStandingOf (Ok t) (ShowsMeta db) (settings_text d) → HasNoneToMigrate db d → ⊥
some_to_migrate db d t is free told (inl took) = true≢false (sym took ∙ free)
some_to_migrate db d t is free told (inr none) =
    let both = first_is t told.0 told.1 (settings_text d) is told.2 in
    none (subst (λ v. ShowsMeta db v (settings_text d)) both.0 (subst (ShowsMeta db told.0) both.1 told.3))

-- a call that fails for want of memory, the disk or its size alone has no other fault
pub none_other : (P : Type 0) (r : Result Migrated OpenFault) → MatchResult r (λ m. m ≡ migrated.Done) (λ f. f ≡ fault.Unavailable) → IfErr r (λ f. f ≢ fault.Unavailable → P)
none_other P (Ok m) is = tt
none_other P (Err f) is = λ other. absurd (other is)

-- From what is found of a file's `meta` to what opening it with other settings makes.
use Rattle.std.proofs.Common.{◌≡◌, inr, true, false, true≢false, sym, ap, subst, ◌∙◌, Ok, Option, Some}
use Rattle.sqlite.specs.Effect.{Database}
use Rattle.sqlite.specs.Tree.{Trees}
use Rattle.sqlite_catalog.specs.Listing.{Lists}
use Rattle.sqlite_trees.specs.Objects.{catalog_tree}
use Rattle.gate_types.specs.Adopt.{adopted_content, may_adopt}
use Rattle.gate_types.specs.Forms.{are_settings_in_form}
use Rattle.gate_types.specs.Lawful.{IsSound}
use Rattle.gate_types.specs.Once.{Content}
use Rattle.gate_types.specs.Settings.{Settings, are_sound}
use Rattle.gate_types.specs.SettingsText.{settings_text}
use Rattle.gate_types.specs.declared.open_fault.OpenFault.{OpenFault}
use Rattle.gate_kept_settings.specs.Told.{OneTextASetting, SaysSettings}
use Rattle.gate_laws.proofs.SameSettingsStay.{same_settings_stay}
use Rattle.gate_file_changes.specs.Adopts.{CanAdopt, StandsForLawful}
use Rattle.gate_file_meta.specs.Opens.{MayOpen}
use Rattle.gate_file_meta.specs.Reading.{HasNoneToAdopt, IsFoundOf, IsJudgedOf, IsToldByTrees, ShowsMeta}

-- the settings that are kept tell their text
told : (db : Trees) (c d : Settings) (x : Content) (keeps : StandsForLawful db c x) → SaysSettings keeps.stands.stored.settings c
told db c d x keeps = record { sound = keeps.sound; in_form = keeps.in_form; is = keeps.stands.settings }

-- settings that the kept text says are those that are kept
pub kept_is : OneTextASetting → (db : Trees) (c d k : Settings) (x : Content) (keeps : StandsForLawful db c x) → SaysSettings keeps.stands.stored.settings k → k ≡ c
kept_is law db c d k x keeps says = law keeps.stands.stored.settings k c says (told db c d x keeps)

-- where these may be taken in their place, the kept text may be opened
pub may_open : (db : Trees) (c d : Settings) (x : Content) (keeps : StandsForLawful db c x) → may_adopt c d ≡ true → MayOpen keeps.stands.stored.settings d
may_open db c d x keeps may = inr (c, told db c d x keeps, may)

-- where the kept text is that of these settings, they are those that are kept, and taking them changes nothing
pub own_kept : OneTextASetting → (db : Trees) (c d : Settings) (x : Content) (keeps : StandsForLawful db c x) → are_sound d ≡ true → are_settings_in_form d ≡ true → keeps.stands.stored.settings ≡ settings_text d
    → (c ≡ d) × (adopted_content c d x ≡ x)
own_kept law db c d x keeps sound in_form is =
    let same : c ≡ d = law keeps.stands.stored.settings c d (told db c d x keeps) (record { sound = sound; in_form = in_form; is = is }) in
    (same, ap (λ s. adopted_content s d x) same ∙ same_settings_stay.content d x sound (subst (λ s. IsSound s x.state) same keeps.lawful.lawful.sound))

-- nor are they such as may not be taken
pub own_refused : (c d : Settings) → c ≡ d → may_adopt c d ≡ false → ⊥
own_refused c d same refused = true≢false (sym (same_settings_stay.may d) ∙ ap (λ s. may_adopt s d) (sym same) ∙ refused)

-- it can be adopted in any tables that are these
pub can_adopt : (old new : Database) (c d k : Settings) (x : Content) → new ≡ old → k ≡ c → StandsForLawful old.trees c x → may_adopt c d ≡ true → CanAdopt new.trees k d x
can_adopt old new c d k x is same keeps may =
    subst (λ (e : Database). CanAdopt e.trees k d x) (sym is) (subst (λ s. CanAdopt old.trees s d x) (sym same) (record { sound = keeps.sound; may = may; lawful = keeps.lawful; stands = keeps.stands }))

-- settings in whose place these may not be taken aren't found as some in whose place they may
pub not_found : OneTextASetting → (db : Trees) (c d k : Settings) (x : Content) (keeps : StandsForLawful db c x) → may_adopt c d ≡ false → SaysSettings keeps.stands.stored.settings k → may_adopt k d ≡ true → ⊥
not_found law db c d k x keeps refused says may = true≢false (sym may ∙ ap (λ s. may_adopt s d) (kept_is law db c d k x keeps says) ∙ refused)

-- where other settings are found, there are some to adopt
pub some_to_adopt : (db : Database) (d k : Settings) → IsFoundOf (Ok (Some k)) (ShowsMeta db) d → HasNoneToAdopt db d → ⊥
some_to_adopt db d k found none = none found.0 k found.4 found.1 found.2 found.3

-- what is told of the tables of a connection is told of these trees, which are its own
pub told_of : (db : Database) (fault : Option OpenFault) (trees : Trees) (d : Settings) → db.trees ≡ trees → Lists (db.trees catalog_tree) db.schema → IsJudgedOf fault (ShowsMeta db) d → IsToldByTrees fault trees d
told_of db fault trees d is lists told = subst (λ t. IsToldByTrees fault t d) is (record { schema = db.schema; lists = lists; told = told })

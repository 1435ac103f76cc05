-- From what a command does over an open file to what it made of the file at a path.
use Rattle.std.proofs.Common.{◌≡◌, ℕ, List, Option, inl, refl, subst, sym, map}
use Rattle.std.specs.Prelude.{Err, IfOk, IsErrOf, IsTrue, MatchResult, None, Ok, OnErr, OnOk, Result}
use Rattle.std.specs.Io.KnownBytes.{Appends}
use Rattle.sqlite.specs.State.{HasCleanDisk, State}
use Rattle.sqlite.specs.Tree.{Trees}
use Rattle.gate_types.specs.Migrate.{migrated_content}
use Rattle.gate_types.specs.Once.{Content, empty}
use Rattle.gate_types.specs.Settings.{Settings}
use Rattle.gate_types.specs.State.{Queue}
use Rattle.gate_types.specs.Gated.{Gated}
use Rattle.gate_schema.specs.Schema.{schema_with}
use Rattle.gate_rows.specs.Matches.{StandsFor}
use Rattle.gate_table_laws.specs.Held.{IsShownFor, ShowsFor, queue_names}
use Rattle.gate_migration.specs.Migrates.{IsLeft}
use Rattle.gate_migration.specs.Upgrade.{StandsForFirst}
use Rattle.gate_migration.specs.declared.migrating.Migrated.{Migrated}
use Rattle.gate_migration.specs.declared.migrating.Migrated.TheVariants as migrated
use Rattle.gated_cli.specs.OfFile.{MakesGate, PrintsOf, Upgrades}
use Rattle.gated_cli.specs.OverFile.{GoesOver, file_fault}
use Rattle.gated_cli.specs.declared.run.fault.Fault.{Fault}
use Rattle.gated_cli.specs.declared.run.fault.Fault.TheVariants as fault

-- what was done, and closed, ended well
pub closed_led : {T : Type 0} (X Z : T → Type 0) (done : Result T Fault) (closing : Result (Unit {0}) Fault)
    (result : Result T Fault) (W : Type 0) → OnErr done (result ≡ done) → OnOk done (OnOk closing (result ≡ done)) →
    OnOk done (OnErr closing (IsErrOf result fault.Store)) → IfOk done X → OnOk closing W →
    ((t : T) → X t → W → Z t) → IfOk result Z
closed_led X Z (Ok t) (Ok u) result W kept well unclosed is shut to =
    subst (λ r. IfOk r Z) (sym well) (to t is shut)
closed_led X Z (Ok t) (Err f) result W kept well unclosed is shut to = subst (λ r. IfOk r Z) (sym unclosed) tt
closed_led X Z (Err f) closing result W kept well unclosed is shut to = subst (λ r. IfOk r Z) (sym kept) tt

-- tables are made
pub made_led : (old new : State) (c : Settings) (done : Result (Unit {0}) Fault) →
    (old.now.schema ≡ schema_with 0 0 → HasCleanDisk new → OnOk done (ShowsFor new c (empty c))) →
    (old.now.schema ≡ schema_with 0 0 → HasCleanDisk new →
    OnOk done ((db : Trees) → new.may_leave db → StandsFor db c (empty c))) →
    IfOk done (λ u. MakesGate c old new)
made_led old new c (Ok u) shows leaves = λ bare clean. (shows bare clean, λ db may. inl (leaves bare clean db may))
made_led old new c (Err f) shows leaves = tt

-- a conversation ended well
pub replied_led : (X : Type 0) (done : Result (Unit {0}) Fault) → OnOk done X → IfOk done (λ u. X)
replied_led X (Ok u) is = is
replied_led X (Err f) is = tt

-- a file was opened, since there is no fault of it
pub opened_led : (X : Result (Unit {0}) Fault → Type 0) (done : Result (Unit {0}) Fault) →
    (file_fault done ≡ None → X done) → IfOk done (λ u. X (Ok u))
opened_led X (Ok u) gate = gate refl
opened_led X (Err f) gate = tt

-- and what was printed is of its gate
pub printed_led : (old new : State) (c : Settings) (Told : Gated → (List ℕ → Type 0) → Type 0)
    (held then : Option (List ℕ)) (Writes : Gated → Result (Unit {0}) Fault → Type 0) (done : Result (Unit {0}) Fault) →
    ((g : Gated) (u : Unit {0}) → Writes g (Ok u) → Told g (Appends held then)) →
    (file_fault done ≡ None → GoesOver old new c (λ g after. (after ≡ g) × Writes g done)) →
    IfOk done (λ u. PrintsOf c Told held then old new)
printed_led old new c Told held then Writes (Ok u) told gate =
    λ clean g file. let went = gate refl clean g file in (went.0, went.1, (went.2.0, told g u went.2.1))
printed_led old new c Told held then Writes (Err f) told gate = tt

-- a file of either schema is one of schema 2
pub upgraded_led : (old new : State) (c : Settings) (done : Result Migrated Fault) (P Q : Fault → Type 0) →
    (HasCleanDisk new → IsTrue old.is_open → (x : Content) → StandsForFirst old.now.trees c x →
    map (λ (q : Queue). q.name) x.state.queues ≡ queue_names c →
    MatchResult done (λ m. (m ≡ migrated.Done) × IsShownFor new c (migrated_content c x)) P) →
    (HasCleanDisk new → IsTrue old.is_open → (k : Settings) (x : Content) → StandsFor old.now.trees k x →
    MatchResult done (λ m. m ≡ migrated.Already) Q × IsLeft old new) → IfOk done (λ m. Upgrades c m old new)
upgraded_led old new c (Ok m) P Q first second = λ clean up. (first clean up, second clean up)
upgraded_led old new c (Err f) P Q first second = tt

-- Why a command over a gate's file ends with a fault.
use Rattle.std.specs.Prelude.{◌≡◌, ⊤, ◌⊎◌, ℕ, List, [], Option, None, Ok, Err}
use Rattle.std.specs.Io.KnownBytes.{Appends, Consumes}
use Rattle.sqlite.specs.State.{HasCleanDisk, State}
use Rattle.gate_types.specs.Settings.{Settings}
use Rattle.gate_types.specs.declared.open_fault.OpenFault.{OpenFault}
use Rattle.gate_types.specs.declared.open_fault.OpenFault.TheVariants as open_fault
use Rattle.gate_types.specs.declared.tap.Tap.{Tap}
use Rattle.gate_file_meta.specs.Opens.{IsJudged, IsMade, IsMeta, is_taken, with_meta}
use Rattle.gate_migration.specs.Standing.{IsMigrated, is_newly_taken}
use Rattle.gate_migration.specs.declared.migrating.Migrated.{Migrated}
use Rattle.gate_core.specs.Lines.{whole_lines, ReadFor}
use Rattle.gated_command.specs.declared.words.Cmd.{Cmd}
use Rattle.gated_command.specs.declared.words.Cmd.TheVariants.{Init, Deliver, Status, History}
use Rattle.gated_command.specs.declared.words.Cmd.TheVariants.{Deliveries, Get, Serve, Migrate}
use Rattle.gated_cli.specs.Doing.{HasSettings, Streams}
use Rattle.gated_cli.specs.Ending.{IsOfSettings, most_served}
use Rattle.gated_cli.specs.OfFile.{MakesGate, RepliesTo, Upgrades}
use Rattle.gated_cli.specs.OverFile.{BreaksOver, GoesOver, LeavesAfter, RepliesOver, ServesOver, file_fault}
use Rattle.gated_cli.specs.Showing.{Writes}
use Rattle.gated_cli.specs.declared.run.fault.Fault.{Fault}
use Rattle.gated_cli.specs.declared.run.fault.Fault.TheVariants as fault
use Rattle.gated_cli.specs.declared.run.shown.Shown.{Shown}
use Rattle.gated_cli.specs.declared.run.shown.Shown.TheVariants as shown

-- ---- the file

-- which fault of the file it is, if it is one
abbrev pub of_file : Fault → Option OpenFault
of_file f = file_fault {T = Unit {0}} (Err f)

-- whether an open file is taken for the gate's, or why not, is decided by its tables alone
abbrev pub IsJudgedBy : Settings → Option OpenFault → State → State → Type 0
IsJudgedBy c why old new = (tables : _) (indexes : _) (views : _) (version kept : List ℕ) →
    old.now.schema ≡ with_meta tables indexes views → IsMeta old.now.trees version kept → HasCleanDisk new →
    IsJudged why version kept c

-- the file can't be opened; or it isn't the gate's by its tables, or this is so of it. `Left path U P` says of the file
-- there that it couldn't be opened, and U; or that it was opened in one state and given back to be closed in another,
-- and P of the two
abbrev pub FileFails : (List ℕ → Type 0 → (State → State → Type 0) → Type 0) → List ℕ → Settings → Fault →
    (State → State → Type 0) → Type 0
FileFails Left file c f P = Left file (f ≡ fault.File open_fault.Unavailable)
    (λ old new. IsJudgedBy c (of_file f) old new × (of_file f ≡ None → P old new))

-- no gate is made in a file: it can't be opened, or another one's log lies beside it; or its names are taken, or it
-- failed; or the gate is made, and the file can't be closed
abbrev pub MakingFails : (List ℕ → Type 0 → (State → State → Type 0) → Type 0) → List ℕ → Settings → Fault → Type 0
MakingFails Left file c f =
    Left file ((f ≡ fault.File open_fault.Unavailable) ⊎ (f ≡ fault.File open_fault.WrongFile))
    (λ old new. IsMade (of_file f) (is_taken old.now.schema) old.in_transaction
    × (f ≡ fault.Store → MakesGate c old new))

-- whether an open file is migrated, or why not, is decided by its tables alone
abbrev pub IsKeptBack : Settings → Fault → State → State → Type 0
IsKeptBack c (fault.File f) old new = (tables : _) (indexes : _) (views : _) (version kept : List ℕ) →
    old.now.schema ≡ with_meta tables indexes views → IsMeta old.now.trees version kept → HasCleanDisk new →
    IsMigrated (Err f) (is_newly_taken old.now.schema) version kept c
IsKeptBack c f old new = ⊤

-- a file isn't migrated: it can't be opened, or is kept back by its tables; or it is, and can't be closed
abbrev pub MigratingFails : (List ℕ → Type 0 → (State → State → Type 0) → Type 0) → List ℕ → Settings → Fault → Type 0
MigratingFails Left file c f = Left file (f ≡ fault.File open_fault.Unavailable)
    (λ old new. IsKeptBack c f old new × (f ≡ fault.Store → (done : Migrated) × Upgrades c done old new))

-- ---- a conversation

-- what a fault leaves of a conversation with the gate of a file: the whole lines are replied to where the input failed,
-- the ones before the cut where the output did, none where there was no memory, and all where the file can't be closed
abbrev pub BreaksTo : Settings → Fault → Streams → Streams → State → State → Type 0
BreaksTo c fault.Read before after old new = (front : List ℕ) × Consumes before.left after.left front
    × (text : List ℕ) × Appends before.held after.held text
    × GoesOver old new c (RepliesOver new c (whole_lines front) text)
BreaksTo c fault.Write before after old new = (lines : List (List ℕ))
    × (text : List ℕ) × Appends before.held after.held text
    × (done : ℕ) × ReadFor before.left after.left lines done × GoesOver old new c (BreaksOver new c lines text done)
BreaksTo c fault.NoMemory before after old new =
    GoesOver old new c (λ g after. (after ≡ g) × LeavesAfter new c g [])
BreaksTo c fault.Store before after old new = RepliesTo c before after old new
BreaksTo c _ before after old new = ⊥

-- ---- a text

-- a text of the gate of a file, which stays as it is, isn't printed whole; or it is, and the file can't be closed
abbrev pub IsNotShown : {W : Type 0} → Settings → Shown → (W → Option (List ℕ)) → Tap W → Tap W → Fault → State →
    State → Type 0
IsNotShown c s held from to f old new = GoesOver old new c (λ g after. (after ≡ g)
    × (Writes s g held from to (Err f) ⊎ ((f ≡ fault.Store) × Writes s g held from to (Ok tt)))
    × LeavesAfter new c g [])

-- ---- a command

-- a command ended with a fault: of the settings, or, over some file's settings, as this says
abbrev pub Fails : Fault → (Settings → Type 0) → Type 0
Fails f P = IsOfSettings f ⊎ ((c : Settings) × HasSettings c × P c)

-- why a command over a gate's file ended with a fault
abbrev pub Blames : {W : Type 0} → (List ℕ → Type 0 → (State → State → Type 0) → Type 0) → (W → Option (List ℕ)) →
    Fault → Cmd → Tap W → Tap W → Streams → Streams → Type 0
Blames Left held f (Init settings file) from to before after = Fails f (λ c. MakingFails Left file.now c f)
Blames Left held f (Deliver settings file) from to before after =
    Fails f (λ c. FileFails Left file.now c f (BreaksTo c f before after))
Blames Left held f (Status settings file) from to before after =
    Fails f (λ c. FileFails Left file.now c f (IsNotShown c shown.Status held from to f))
Blames Left held f (History settings file queue) from to before after =
    Fails f (λ c. FileFails Left file.now c f (IsNotShown c (shown.History queue) held from to f))
Blames Left held f (Deliveries settings file behind) from to before after =
    Fails f (λ c. FileFails Left file.now c f (IsNotShown c (shown.Deliveries behind) held from to f))
Blames Left held f (Get settings file path) from to before after =
    Fails f (λ c. FileFails Left file.now c f (IsNotShown c (shown.Content path) held from to f))
Blames Left held f (Serve settings file port count) from to before after = Fails f (λ c. FileFails Left file.now c f
    (λ old new. GoesOver old new c (ServesOver new c (most_served (Err f) count))))
Blames Left held f (Migrate settings file) from to before after =
    Fails f (λ c. (f ≡ fault.Write) ⊎ MigratingFails Left file.now c f)
Blames Left held f _ from to before after = ⊤

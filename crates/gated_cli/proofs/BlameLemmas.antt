-- From what a command does over an open file to why it ends with a fault.
use Rattle.std.proofs.Common.{◌≡◌, ◌⊎◌, ℕ, List, refl, subst, sym}
use Rattle.std.specs.Prelude.{◌≢◌, Err, IfErr, IfOk, IsErrOf, MatchResult, None, Ok, OnErr, OnOk, Result}
use Rattle.sqlite.specs.State.{HasCleanDisk, State}
use Rattle.gate_types.specs.Settings.{Settings}
use Rattle.gate_types.specs.declared.open_fault.OpenFault.TheVariants as open_fault
use Rattle.gate_file_meta.specs.Opens.{IsMade, IsMeta, is_taken, with_meta}
use Rattle.gate_migration.specs.Standing.{IsMigrated, is_newly_taken}
use Rattle.gate_migration.specs.declared.migrating.Migrated.{Migrated}
use Rattle.gated_cli.specs.Blame.{BreaksTo, IsJudgedBy, IsKeptBack, of_file}
use Rattle.gated_cli.specs.Doing.{Streams}
use Rattle.gated_cli.specs.Ending.{IsOfFile}
use Rattle.gated_cli.specs.OfFile.{MakesGate, RepliesTo, Upgrades}
use Rattle.gated_cli.specs.OverFile.{file_answer, file_fault}
use Rattle.gated_cli.specs.declared.run.fault.Fault.{Fault}
use Rattle.gated_cli.specs.declared.run.fault.Fault.TheVariants as fault

-- what a machine says of a file that was left, by its own words
abbrev pub LeftBy : {D : Type 0} → (List ℕ → Type 0) → (D → List ℕ → Type 0) → (D → Type 0) → (D → State) → List ℕ →
    Type 0 → (State → State → Type 0) → Type 0
LeftBy {D} unopened of given at path U P =
    (unopened path × U) ⊎ ((old : D) × (new : D) × of old path × given new × P (at old) (at new))

-- ---- a file that is opened

module _ (Left : Type 0 → (State → State → Type 0) → Type 0) (c : Settings) (P : Fault → State → State → Type 0) where
  -- why a file fails
  abbrev Why : Fault → Type 0
  Why f = Left (f ≡ fault.File open_fault.Unavailable)
      (λ old new. IsJudgedBy c (of_file f) old new × (of_file f ≡ None → P f old new))

  -- what was done over an open file, and then it was closed, or couldn't be
  pub why_closes : (old new : State) (Q : Result (Unit {0}) Fault → Type 0) (done result : Result (Unit {0}) Fault)
      → OnErr done (result ≡ done) → OnOk done (IfErr result (λ f. f ≡ fault.Store))
      → ((U : Type 0) (R : State → State → Type 0) → R old new → Left U R) → IsJudgedBy c (file_fault done) old new
      → (file_fault done ≡ None → Q done) → ((f : Fault) → Q (Err f) → P f old new)
      → ((u : Unit {0}) → Q (Ok u) → P fault.Store old new) → IfErr result Why
  why_closes old new Q (Ok u) (Ok v) kept store left judged did failed closed = tt
  why_closes old new Q (Ok u) (Err f) kept store left judged did failed closed =
      left (f ≡ fault.File open_fault.Unavailable) (λ o n. IsJudgedBy c (of_file f) o n × (of_file f ≡ None → P f o n))
      (subst (λ f. IsJudgedBy c (of_file f) old new × (of_file f ≡ None → P f old new)) (sym store)
      (judged, λ none. closed u (did refl)))
  why_closes old new Q (Err f) result kept store left judged did failed closed =
      subst (λ r. IfErr r Why) (sym kept)
      (left (f ≡ fault.File open_fault.Unavailable) (λ o n. IsJudgedBy c (of_file f) o n × (of_file f ≡ None → P f o n))
      (judged, λ none. failed f (did none)))

-- ---- a conversation

-- what came of it, unless the fault is one of the file
pub replied_or_broke : (c : Settings) (b a : Streams) (old new : State) (done : Result (Unit {0}) Fault)
    → OnOk done (RepliesTo c b a old new) → (IsErrOf done fault.Read → BreaksTo c fault.Read b a old new)
    → (IsErrOf done fault.Write → BreaksTo c fault.Write b a old new)
    → (IsErrOf done fault.NoMemory → BreaksTo c fault.NoMemory b a old new)
    → IfErr done (λ f. f ≢ fault.Read → f ≢ fault.Write → IsOfFile f) → file_fault done ≡ None
    → MatchResult done (λ u. RepliesTo c b a old new) (λ f. BreaksTo c f b a old new)
replied_or_broke c b a old new (Ok u) ok read write memory other none = ok
replied_or_broke c b a old new (Err fault.Read) ok read write memory other none = read refl
replied_or_broke c b a old new (Err fault.Write) ok read write memory other none = write refl
replied_or_broke c b a old new (Err fault.NoMemory) ok read write memory other none = memory refl
replied_or_broke c b a old new (Err (fault.File o)) ok read write memory other none = cc
replied_or_broke c b a old new (Err (fault.Settings s)) ok read write memory other none = absurd (other (λ e. cc) (λ e. cc))
replied_or_broke c b a old new (Err fault.Unavailable) ok read write memory other none = absurd (other (λ e. cc) (λ e. cc))
replied_or_broke c b a old new (Err fault.SettingsFile) ok read write memory other none = absurd (other (λ e. cc) (λ e. cc))
replied_or_broke c b a old new (Err fault.Listener) ok read write memory other none = absurd (other (λ e. cc) (λ e. cc))
replied_or_broke c b a old new (Err fault.NoQueue) ok read write memory other none = absurd (other (λ e. cc) (λ e. cc))
replied_or_broke c b a old new (Err fault.Store) ok read write memory other none = absurd (other (λ e. cc) (λ e. cc))
replied_or_broke c b a old new (Err fault.NoDelivery) ok read write memory other none = absurd (other (λ e. cc) (λ e. cc))
replied_or_broke c b a old new (Err fault.Refused) ok read write memory other none = absurd (other (λ e. cc) (λ e. cc))

-- ---- a file that is made, or migrated

-- a fault of a file isn't that it can't be closed
not_of_closing : (f : Fault) → IsOfFile f → f ≢ fault.Store
not_of_closing f of e = subst IsOfFile e of

module _ (Left : Type 0 → (State → State → Type 0) → Type 0) (c : Settings) (old new : State)
    (left : (U : Type 0) (R : State → State → Type 0) → R old new → Left U R) where
  -- why no gate is made in a file
  abbrev Unmade : Fault → Type 0
  Unmade f = Left ((f ≡ fault.File open_fault.Unavailable) ⊎ (f ≡ fault.File open_fault.WrongFile))
      (λ o n. IsMade (of_file f) (is_taken o.now.schema) o.in_transaction × (f ≡ fault.Store → MakesGate c o n))

  -- a gate was made, or why not, and the file was closed, or couldn't be
  pub making_closes : (done result : Result (Unit {0}) Fault) → OnErr done (result ≡ done)
      → OnOk done (IfErr result (λ f. f ≡ fault.Store))
      → IsMade (file_fault done) (is_taken old.now.schema) old.in_transaction → IfOk done (λ u. MakesGate c old new)
      → IfErr done IsOfFile → IfErr result Unmade
  making_closes (Ok u) (Ok v) kept store made makes of = tt
  making_closes (Ok u) (Err f) kept store made makes of =
      left ((f ≡ fault.File open_fault.Unavailable) ⊎ (f ≡ fault.File open_fault.WrongFile))
      (λ o n. IsMade (of_file f) (is_taken o.now.schema) o.in_transaction × (f ≡ fault.Store → MakesGate c o n))
      (subst (λ f. IsMade (of_file f) (is_taken old.now.schema) old.in_transaction
      × (f ≡ fault.Store → MakesGate c old new)) (sym store) (made, λ e. makes))
  making_closes (Err f) result kept store made makes of =
      subst (λ r. IfErr r Unmade) (sym kept)
      (left ((f ≡ fault.File open_fault.Unavailable) ⊎ (f ≡ fault.File open_fault.WrongFile))
      (λ o n. IsMade (of_file f) (is_taken o.now.schema) o.in_transaction × (f ≡ fault.Store → MakesGate c o n))
      (made, λ e. absurd (not_of_closing f of e)))

  -- why a file isn't migrated
  abbrev Unmigrated : Fault → Type 0
  Unmigrated f = Left (f ≡ fault.File open_fault.Unavailable)
      (λ o n. IsKeptBack c f o n × (f ≡ fault.Store → (m : Migrated) × Upgrades c m o n))

  -- what was answered of a file by its tables
  abbrev Answered : Result Migrated Fault → Type 0
  Answered done = (tables : _) (indexes : _) (views : _) (version kept : List ℕ)
      → old.now.schema ≡ with_meta tables indexes views → IsMeta old.now.trees version kept → HasCleanDisk new
      → IsMigrated (file_answer done) (is_newly_taken old.now.schema) version kept c

  kept_back : (f : Fault) → Answered (Err f) → IsKeptBack c f old new
  kept_back (fault.File o) answered = answered
  kept_back fault.NoMemory answered = tt
  kept_back (fault.Settings s) answered = tt
  kept_back fault.Unavailable answered = tt
  kept_back fault.Read answered = tt
  kept_back fault.Write answered = tt
  kept_back fault.SettingsFile answered = tt
  kept_back fault.Listener answered = tt
  kept_back fault.NoQueue answered = tt
  kept_back fault.Store answered = tt
  kept_back fault.NoDelivery answered = tt
  kept_back fault.Refused answered = tt

  -- a file was migrated, or why not, and it was closed, or couldn't be
  pub migrating_closes : (done result : Result Migrated Fault) → OnErr done (result ≡ done)
      → OnOk done (IfErr result (λ f. f ≡ fault.Store)) → Answered done → IfOk done (λ m. Upgrades c m old new)
      → IfErr done IsOfFile → IfErr result Unmigrated
  migrating_closes (Ok m) (Ok v) kept store answered upgrades of = tt
  migrating_closes (Ok m) (Err f) kept store answered upgrades of =
      left (f ≡ fault.File open_fault.Unavailable)
      (λ o n. IsKeptBack c f o n × (f ≡ fault.Store → (m : Migrated) × Upgrades c m o n))
      (subst (λ f. IsKeptBack c f old new × (f ≡ fault.Store → (m : Migrated) × Upgrades c m old new)) (sym store)
      (tt, λ e. (m, upgrades)))
  migrating_closes (Err f) result kept store answered upgrades of =
      subst (λ r. IfErr r Unmigrated) (sym kept)
      (left (f ≡ fault.File open_fault.Unavailable)
      (λ o n. IsKeptBack c f o n × (f ≡ fault.Store → (m : Migrated) × Upgrades c m o n))
      (kept_back f answered, λ e. absurd (not_of_closing f of e)))

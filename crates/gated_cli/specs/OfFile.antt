-- What a command that is done has made of the gate's file at its path.
use Rattle.std.specs.Prelude.{◌≡◌, ⊤, ℕ, List, [], ◌∷◌, ◌++◌, Option, option_map, IsTrue, map}
use Rattle.std.specs.Io.KnownBytes.{Appends, Consumes, IsAtEnd}
use Rattle.sqlite.specs.State.{HasCleanDisk, State}
use Rattle.gate_types.specs.Migrate.{migrated_content}
use Rattle.gate_types.specs.Once.{Content, empty}
use Rattle.gate_types.specs.Settings.{Settings}
use Rattle.gate_types.specs.State.{Queue}
use Rattle.gate_types.specs.Gated.{Gated}
use Rattle.gate_schema.specs.Schema.{schema_with}
use Rattle.gate_rows.specs.Matches.{StandsFor}
use Rattle.gate_book_trait.specs.Writes.{OfQueue}
use Rattle.gate_table_laws.specs.Held.{IsShownFor, LeavesFor, ShowsFor, queue_names}
use Rattle.gate_migration.specs.Migrates.{IsLeft}
use Rattle.gate_migration.specs.Upgrade.{StandsForFirst}
use Rattle.gate_migration.specs.declared.migrating.Migrated.{Migrated}
use Rattle.gate_migration.specs.declared.migrating.Migrated.TheVariants as migrated
use Rattle.gate_core.specs.Lines.{lines_of}
use Rattle.gate_http.specs.declared.served.Served.TheVariants.{Answered}
use Rattle.gated_command.specs.declared.words.Cmd.{Cmd}
use Rattle.gated_command.specs.declared.words.Cmd.TheVariants.{Check, Init, Replay, Deliver, Status, History}
use Rattle.gated_command.specs.declared.words.Cmd.TheVariants.{Deliveries, Get, Serve, Migrate}
use Rattle.gated_cli.specs.Doing.{HasSettings, Streams, migrated_text, status_of}
use Rattle.gated_cli.specs.OverFile.{GoesOver, RepliesOver, ServesOver}
use Rattle.gated_cli.specs.Showing.{OfContent, OfLinesTold, lines_told}
use Rattle.gated_cli.specs.declared.run.shown.Shown.{Shown}
use Rattle.gated_cli.specs.declared.run.shown.Shown.TheVariants as shown

-- in an empty file, the tables of a gate before its first delivery are made, and a crash leaves these
abbrev pub MakesGate : Settings → State → State → Type 0
MakesGate c old new = old.now.schema ≡ schema_with 0 0 → HasCleanDisk new →
    ShowsFor new c (empty c) × LeavesFor new c (empty c ∷ [])

-- all of the input is read, and its lines are replied to by the gate of the file
abbrev pub RepliesTo : Settings → Streams → Streams → State → State → Type 0
RepliesTo c before after old new = (input : List ℕ) × Consumes before.left after.left input × IsAtEnd after.left
    × (replies : List ℕ) × Appends before.held after.held replies
    × GoesOver old new c (RepliesOver new c (lines_of input) replies)

-- the output grows by a text of the gate of the file, which stays as it is
abbrev pub PrintsOf : Settings → (Gated → (List ℕ → Type 0) → Type 0) → Option (List ℕ) → Option (List ℕ) →
    State → State → Type 0
PrintsOf c Told held then old new = GoesOver old new c (λ g after. (after ≡ g) × Told g (Appends held then))

-- the status text, the history of a queue, the lines of deliveries, or the content of an answer
abbrev pub StatusOf : Gated → (List ℕ → Type 0) → Type 0
StatusOf g Takes = Takes (status_of g)

abbrev pub HistoryOf : List ℕ → Gated → (List ℕ → Type 0) → Type 0
HistoryOf queue g Takes = OfQueue g.content.state queue [] Takes

abbrev pub DeliveriesOf : Option (List ℕ) → Gated → (List ℕ → Type 0) → Type 0
DeliveriesOf after g Takes = OfLinesTold (lines_told g after) Takes

abbrev pub ContentOf : List ℕ → Gated → (List ℕ → Type 0) → Type 0
ContentOf path g Takes = OfContent g path (Answered 200) Takes

-- the one that is asked for
abbrev pub TextOf : Shown → Gated → (List ℕ → Type 0) → Type 0
TextOf shown.Status = StatusOf
TextOf (shown.History queue) = HistoryOf queue.now
TextOf (shown.Deliveries behind) = DeliveriesOf (option_map (λ s. s.now) behind)
TextOf (shown.Content path) = ContentOf path.now

-- a file of schema 1 becomes one of schema 2, and one of schema 2 is left
abbrev pub Upgrades : Settings → Migrated → State → State → Type 0
Upgrades c done old new = HasCleanDisk new → IsTrue old.is_open →
    ((x : Content) → StandsForFirst old.now.trees c x → map (λ (q : Queue). q.name) x.state.queues ≡ queue_names c →
    (done ≡ migrated.Done) × IsShownFor new c (migrated_content c x))
    × ((k : Settings) (x : Content) → StandsFor old.now.trees k x → (done ≡ migrated.Already) × IsLeft old new)

-- what a command that is done did to the file at its path; `Led path P` says that the file there was led from one state
-- to another, and that `P` is so of the two
abbrev pub Made : (List ℕ → (State → State → Type 0) → Type 0) → Cmd → Streams → Streams → Type 0
Made Led (Check settings) before after = ⊤
Made Led (Init settings file) before after = (c : Settings) × HasSettings c × Led file.now (MakesGate c)
Made Led (Replay settings status) before after = ⊤
Made Led (Deliver settings file) before after =
    (c : Settings) × HasSettings c × Led file.now (RepliesTo c before after)
Made Led (Status settings file) before after =
    (c : Settings) × HasSettings c × Led file.now (PrintsOf c StatusOf before.held after.held)
Made Led (History settings file queue) before after =
    (c : Settings) × HasSettings c × Led file.now (PrintsOf c (HistoryOf queue.now) before.held after.held)
Made Led (Deliveries settings file behind) before after =
    let named = option_map (λ s. s.now) behind in
    (c : Settings) × HasSettings c × Led file.now (PrintsOf c (DeliveriesOf named) before.held after.held)
Made Led (Get settings file path) before after =
    (c : Settings) × HasSettings c × Led file.now (PrintsOf c (ContentOf path.now) before.held after.held)
Made Led (Serve settings file port count) before after =
    (c : Settings) × HasSettings c × Led file.now (λ old new. GoesOver old new c (ServesOver new c count))
Made Led (Migrate settings file) before after = (c : Settings) × HasSettings c × (done : Migrated)
    × Appends before.held after.held (migrated_text done ++ 10 ∷ []) × Led file.now (Upgrades c done)

-- How a command ends with a fault: which fault comes when, and what is read, written and told then.
use Rattle.std.specs.Prelude.{◌≡◌, true, false, ⊤, ◌⊎◌, ◌≤◌, ◌<◌, ℕ, Bool, List, [], ◌∷◌, ◌++◌, length, take}
use Rattle.std.specs.Prelude.{Option, Result, Err}
use Rattle.std.specs.Io.KnownBytes.{Appends, Consumes}
use Rattle.gate_types.specs.Settings.{Settings}
use Rattle.gate_types.specs.Tap.{has_failed, Took, TookFront, WritesFront}
use Rattle.gate_types.specs.Gated.{Gated, new_gate}
use Rattle.gate_types.specs.declared.tap.Tap.{Tap}
use Rattle.gate_config.specs.Reading.{said_by, GivesSettings}
use Rattle.gate_core.specs.Lines.{whole_lines, ReadFor}
use Rattle.gate_core.specs.Replies.{Replayed, Cut}
use Rattle.gated_cli.specs.Doing.{Streams, AnswersInput, Delivers, HasSettings, settings_limit, status_of, check_text}
use Rattle.gated_cli.specs.Doing.{Announces, IsPortFor, Looks, Prints, listening_line, migrated_text}
use Rattle.gate_migration.specs.declared.migrating.Migrated.{Migrated}
use Rattle.gated_command.specs.declared.words.Cmd.{Cmd}
use Rattle.gated_command.specs.declared.words.Cmd.TheVariants.{Check, Init, Replay, Deliver, Status, History}
use Rattle.gated_command.specs.declared.words.Cmd.TheVariants.{Deliveries, Get, Serve, Migrate}
use Rattle.gated_cli.specs.declared.run.fault.Fault.{Fault}
use Rattle.gated_cli.specs.declared.run.fault.Fault.TheVariants as fault
use Rattle.gated_cli.specs.declared.run.shown.Shown.{Shown}
use Rattle.gated_cli.specs.declared.run.shown.Shown.TheVariants as shown

-- a fault of the settings file, or want of memory for it; one of the settings is that of some file within the limit
abbrev pub IsOfSettings : Fault → Type 0
IsOfSettings (fault.Settings f) =
    (file : List ℕ) × (length file ≤ settings_limit) × GivesSettings (Err f) (said_by file)
IsOfSettings fault.SettingsFile = ⊤
IsOfSettings fault.NoMemory = ⊤
IsOfSettings _ = ⊥

-- a fault that comes before the input and the output are touched: of the gate's file, or of the settings
abbrev pub IsEarly : Fault → Type 0
IsEarly (fault.File f) = ⊤
IsEarly f = IsOfSettings f

-- a fault of the gate's file, or want of memory before it was read
abbrev pub IsOfFile : Fault → Type 0
IsOfFile (fault.File f) = ⊤
IsOfFile fault.NoMemory = ⊤
IsOfFile _ = ⊥

-- the input failed and the output didn't, and the lines that were whole by then are replied to
pub record InputFails (before after : Streams) : Type 0 where
  pub failed : after.input_failed ≡ true
  pub unfailed : after.output_failed ≡ false
  pub config : Settings
  pub settings : HasSettings config
  pub front : List ℕ
  pub read : Consumes before.left after.left front
  pub replies : List ℕ
  pub gate : Gated
  pub answered : Replayed (new_gate config) (whole_lines front) replies gate
  pub written : Appends before.held after.held replies

-- the output failed within the reply to some line, and the input, which didn't, was read no further than for it
pub record ReplyIsCut (before after : Streams) : Type 0 where
  pub unfailed : after.input_failed ≡ false
  pub config : Settings
  pub settings : HasSettings config
  pub lines : List (List ℕ)
  pub replies : List ℕ
  pub gate : Gated
  pub answered : Cut (new_gate config) lines replies gate
  pub read : ReadFor before.left after.left lines (length answered.done)
  pub written : Appends before.held after.held replies

-- the status is asked for, and behind all replies the output failed within it
pub record StatusIsCut (asked : Bool) (before after : Streams) : Type 0 where
  pub wanted : asked ≡ true
  pub answers : AnswersInput before after
  pub at : ℕ
  pub short : at < length (status_of answers.gate)
  pub written : Appends before.held after.held (answers.replies ++ take at (status_of answers.gate))

-- the status is asked for, and after all replies there was no memory for it
pub record StatusIsRefused (asked : Bool) (before after : Streams) : Type 0 where
  pub wanted : asked ≡ true
  pub answers : AnswersInput before after
  pub written : Appends before.held after.held answers.replies

-- the output failed within the counts of some file's settings
pub record CountsAreCut (before after : Streams) : Type 0 where
  pub config : Settings
  pub settings : HasSettings config
  pub unread : after.left ≡ before.left
  pub written : WritesFront before.held after.held (check_text config ++ 10 ∷ [])

-- how a replay ends with a fault
abbrev pub ReplayEnds : Bool → Fault → Streams → Streams → Type 0
ReplayEnds asked fault.Read before after = InputFails before after
ReplayEnds asked fault.Write before after =
    (after.output_failed ≡ true) × (ReplyIsCut before after ⊎ StatusIsCut asked before after)
ReplayEnds asked fault.Unavailable before after = StatusIsRefused asked before after
ReplayEnds asked fault before after = IsOfSettings fault × (after ≡ before)

-- how a check ends with a fault
abbrev pub CheckEnds : Fault → Streams → Streams → Type 0
CheckEnds fault.Write before after = (after.output_failed ≡ true) × CountsAreCut before after
CheckEnds fault before after = IsOfSettings fault × (after ≡ before)

-- the input failed and the output didn't, which grew by replies
pub record DeliveryStops (before after : Streams) : Type 0 where
  pub failed : after.input_failed ≡ true
  pub unfailed : after.output_failed ≡ false
  pub front : List ℕ
  pub read : Consumes before.left after.left front
  pub replies : List ℕ
  pub written : Appends before.held after.held replies

-- the output failed within the reply to some line, and the input, which didn't, was read no further than for it
pub record DeliveryIsCut (before after : Streams) : Type 0 where
  pub unfailed : after.input_failed ≡ false
  pub failed : after.output_failed ≡ true
  pub lines : List (List ℕ)
  pub done : ℕ
  pub read : ReadFor before.left after.left lines done
  pub replies : List ℕ
  pub written : Appends before.held after.held replies

-- how deliveries over a file end with a fault; all are answered where the file can't be closed
abbrev pub DeliveryEnds : Fault → Streams → Streams → Type 0
DeliveryEnds fault.Read before after = DeliveryStops before after
DeliveryEnds fault.Write before after = DeliveryIsCut before after
DeliveryEnds fault.Store before after = Delivers before after
DeliveryEnds fault before after = IsEarly fault × (after ≡ before)

-- the output failed, and the input is left alone
pub record LookIsCut (before after : Streams) : Type 0 where
  pub unread : after.left ≡ before.left
  pub failed : after.output_failed ≡ true

-- the output failed within some text, and the input is left alone
pub record PrintIsCut (before after : Streams) : Type 0 where
  pub cut : LookIsCut before after
  pub text : List ℕ
  pub written : WritesFront before.held after.held text

-- how showing the status of a gate in a file ends with a fault; it is printed where the file can't be closed
abbrev pub StatusEnds : Fault → Streams → Streams → Type 0
StatusEnds fault.Write before after = PrintIsCut before after
StatusEnds fault.Store before after = Prints before after
StatusEnds fault.Unavailable before after = after ≡ before
StatusEnds fault before after = IsEarly fault × (after ≡ before)

-- how showing a history ends with a fault; it broke off, or the file can't be closed, where the store failed
abbrev pub HistoryEnds : Fault → Streams → Streams → Type 0
HistoryEnds fault.Write before after = LookIsCut before after
HistoryEnds fault.Store before after = Looks before after
HistoryEnds fault.Unavailable before after = after ≡ before
HistoryEnds fault.NoQueue before after = after ≡ before
HistoryEnds fault before after = IsEarly fault × (after ≡ before)

-- how printing deliveries ends with a fault; it broke off, or the file can't be closed, where the store failed
abbrev pub LinesEnd : Fault → Streams → Streams → Type 0
LinesEnd fault.Write before after = LookIsCut before after
LinesEnd fault.Store before after = Looks before after
LinesEnd fault.Unavailable before after = after ≡ before
LinesEnd fault.NoDelivery before after = after ≡ before
LinesEnd fault before after = IsEarly fault × (after ≡ before)

-- how asking as over HTTP ends with a fault: its content is printed where the answer has another status than 200
abbrev pub AskingEnds : Fault → Streams → Streams → Type 0
AskingEnds fault.Write before after = LookIsCut before after
AskingEnds fault.Store before after = Looks before after
AskingEnds fault.Refused before after = Looks before after
AskingEnds fault before after = IsEarly fault × (after ≡ before)

-- how printing a text of a gate ends with a fault
abbrev pub ShowingEnds : Shown → Fault → Streams → Streams → Type 0
ShowingEnds shown.Status fault before after = StatusEnds fault before after
ShowingEnds (shown.History queue) fault before after = HistoryEnds fault before after
ShowingEnds (shown.Deliveries behind) fault before after = LinesEnd fault before after
ShowingEnds (shown.Content path) fault before after = AskingEnds fault before after

-- the output failed within the line that names the port
pub record AnnouncementIsCut (asked : ℕ) (before after : Streams) : Type 0 where
  pub port : ℕ
  pub bound : IsPortFor asked port
  pub unread : after.left ≡ before.left
  pub failed : after.output_failed ≡ true
  pub written : WritesFront before.held after.held (listening_line port)

-- a fault of serving over a gate: of the listener, of the output, or want of memory
abbrev pub IsOfServing : Fault → Type 0
IsOfServing fault.Listener = ⊤
IsOfServing fault.Write = ⊤
IsOfServing fault.NoMemory = ⊤
IsOfServing _ = ⊥

-- how many connections may be served, of so many: none where the line that names the port isn't printed whole
abbrev pub most_served : Result (Unit {0}) Fault → ℕ → ℕ
most_served (Err fault.Write) count = 0
most_served (Err fault.NoMemory) count = 0
most_served _ count = count

-- how serving over a file ends with a fault: nothing is printed where the port can't be had, and the line that names it
-- where a connection can't be accepted, or all are served and the file can't be closed
abbrev pub ServingEnds : ℕ → Fault → Streams → Streams → Type 0
ServingEnds asked fault.Listener before after = (after ≡ before) ⊎ Announces asked before after
ServingEnds asked fault.Write before after = AnnouncementIsCut asked before after
ServingEnds asked fault.Store before after = Announces asked before after
ServingEnds asked fault before after = IsEarly fault × (after ≡ before)

-- a fault of making a file: an early one, or that the file can't be closed
abbrev pub IsOfMaking : Fault → Type 0
IsOfMaking fault.Store = ⊤
IsOfMaking f = IsEarly f

-- the output failed within what is told of a file that is migrated
pub record MigrationIsCut (before after : Streams) : Type 0 where
  pub done : Migrated
  pub unread : after.left ≡ before.left
  pub failed : after.output_failed ≡ true
  pub written : WritesFront before.held after.held (migrated_text done ++ 10 ∷ [])

-- how migrating a file ends with a fault; nothing is told where the file can't be closed
abbrev pub MigrationEnds : Fault → Streams → Streams → Type 0
MigrationEnds fault.Write before after = MigrationIsCut before after
MigrationEnds fault before after = IsOfMaking fault × (after ≡ before)

-- how a command ends with a fault
abbrev pub EndsBy : Fault → Cmd → Streams → Streams → Type 0
EndsBy fault (Check settings) before after = CheckEnds fault before after
EndsBy fault (Init settings file) before after = IsOfMaking fault × (after ≡ before)
EndsBy fault (Deliver settings file) before after = DeliveryEnds fault before after
EndsBy fault (Replay settings status) before after = ReplayEnds status fault before after
EndsBy fault (Status settings file) before after = StatusEnds fault before after
EndsBy fault (History settings file queue) before after = HistoryEnds fault before after
EndsBy fault (Deliveries settings file after_id) before after = LinesEnd fault before after
EndsBy fault (Get settings file path) before after = AskingEnds fault before after
EndsBy fault (Serve settings file port count) before after = ServingEnds port fault before after
EndsBy fault (Migrate settings file) before after = MigrationEnds fault before after

-- the whole text is written, or a beginning where the writer has failed
abbrev pub TellsText : {E : Type 0} → (E → Option (List ℕ)) → Tap E → Tap E → List ℕ → Type 0
TellsText held old new text = Took held old new text ⊎ (TookFront held old new text × (has_failed new ≡ true))

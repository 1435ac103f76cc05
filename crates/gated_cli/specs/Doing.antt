-- What a command has read and written once it is done.
use Rattle.std.specs.Prelude.{◌≡◌, ◌≢◌, ◌<◌, ◌≤◌, ℕ, Bool, false, List, [], ◌∷◌, ◌++◌, length, Option, Ok}
use Rattle.std.specs.Prelude.{if◌then◌else◌, codes, decimal}
use Rattle.std.specs.List.{sum_by}
use Rattle.std.specs.Io.KnownBytes.{Appends, Consumes, IsAtEnd}
use Rattle.gate_types.specs.Settings.{Settings}
use Rattle.gate_types.specs.Status.{status_text}
use Rattle.gate_types.specs.Tap.{inside, has_failed}
use Rattle.gate_types.specs.Gated.{Gated, new_gate}
use Rattle.gate_types.specs.declared.tap.Tap.{Tap}
use Rattle.gate_config.specs.Reading.{said_by}
use Rattle.gated_command.specs.declared.words.Cmd.{Cmd}
use Rattle.gated_command.specs.declared.words.Cmd.TheVariants.{Check, Init, Replay, Deliver, Status, History}
use Rattle.gated_command.specs.declared.words.Cmd.TheVariants.{Deliveries, Get, Serve, Migrate}
use Rattle.gate_migration.specs.declared.migrating.Migrated.{Migrated}
use Rattle.gate_migration.specs.declared.migrating.Migrated.TheVariants as migrated
use Rattle.gate_core.specs.Lines.{lines_of}
use Rattle.gate_core.specs.Replies.{Replayed}
use Rattle.gated_cli.specs.declared.run.shown.Shown.{Shown}
use Rattle.gated_cli.specs.declared.run.shown.Shown.TheVariants as shown

-- what a command's input has left and what its output holds, and whether they have failed
pub record Streams : Type 0 where
  pub left : Option (List ℕ)
  pub held : Option (List ℕ)
  pub input_failed : Bool
  pub output_failed : Bool

-- an output beside what is known of an input
abbrev pub beside : {W : Type 0} → (W → Option (List ℕ)) → Option (List ℕ) → Bool → Tap W → Streams
beside contents left failed w =
    record { left = left; held = contents (inside w); input_failed = failed; output_failed = has_failed w }

-- an input and an output
abbrev pub streams : {R W : Type 0} → (R → Option (List ℕ)) → (W → Option (List ℕ)) → Tap R → Tap W → Streams
streams remaining contents r w = beside contents (remaining (inside r)) (has_failed r) w

-- the longest settings file, in bytes
abbrev pub settings_limit : ℕ
settings_limit = 1048576

-- some file within the limit says these settings
pub record HasSettings (config : Settings) : Type 0 where
  pub file : List ℕ
  pub short : length file ≤ settings_limit
  pub said : said_by file ≡ Ok config

-- the status text of a gate
abbrev pub status_of : Gated → List ℕ
status_of g = status_text g.settings g.content.state

-- all of the input is read, and over some file's settings its lines have these replies
pub record AnswersInput (before after : Streams) : Type 0 where
  pub config : Settings
  pub settings : HasSettings config
  pub input : List ℕ
  pub read : Consumes before.left after.left input
  pub ended : IsAtEnd after.left
  pub replies : List ℕ
  pub gate : Gated
  pub answered : Replayed (new_gate config) (lines_of input) replies gate

-- the output grows by the replies, and then by the status text if it is asked for
pub record Replays (asked : Bool) (before after : Streams) : Type 0 where
  pub answers : AnswersInput before after
  pub written : Appends before.held after.held
      (answers.replies ++ (if asked then status_of answers.gate else []))

-- how many queues, projects and jobs there are
abbrev pub check_text : Settings → List ℕ
check_text c =
    codes "ok: " ++ (decimal (length c.queues) ++ (codes " queues, " ++ (decimal (length c.projects) ++
    (codes " projects, " ++ (decimal (sum_by (λ p. length p.jobs) c.projects) ++ codes " jobs")))))

-- the input is left alone, and the output grows by the counts of some file's settings and an LF
pub record Checks (before after : Streams) : Type 0 where
  pub config : Settings
  pub settings : HasSettings config
  pub unread : after.left ≡ before.left
  pub written : Appends before.held after.held (check_text config ++ 10 ∷ [])

-- all of the input is read, and the output grows by the replies; which they are, no stream tells
pub record Delivers (before after : Streams) : Type 0 where
  pub input : List ℕ
  pub read : Consumes before.left after.left input
  pub ended : IsAtEnd after.left
  pub replies : List ℕ
  pub written : Appends before.held after.held replies

-- the input is left alone, and the output hasn't failed; what it took, no stream tells
pub record Looks (before after : Streams) : Type 0 where
  pub unread : after.left ≡ before.left
  pub unfailed : after.output_failed ≡ false

-- the input is left alone, and the output hasn't failed and grows by a text; which it is, no stream tells
pub record Prints (before after : Streams) : Type 0 where
  pub looks : Looks before after
  pub text : List ℕ
  pub written : Appends before.held after.held text

-- a listener that was asked for a port has this one: the same, or any but 0 where 0 was asked for
pub record IsPortFor (asked port : ℕ) : Type 0 where
  pub real : 0 < port
  pub fits : port ≤ 65535
  pub same : asked ≢ 0 → port ≡ asked

-- the line that names the port
abbrev pub listening_line : ℕ → List ℕ
listening_line port = codes "listening 127.0.0.1:" ++ (decimal port ++ 10 ∷ [])

-- the input is left alone, and the output grows by the line that names the port
pub record Announces (asked : ℕ) (before after : Streams) : Type 0 where
  pub port : ℕ
  pub bound : IsPortFor asked port
  pub unread : after.left ≡ before.left
  pub written : Appends before.held after.held (listening_line port)

-- a text of a gate is printed
abbrev pub PrintsShown : Shown → Streams → Streams → Type 0
PrintsShown shown.Status before after = Prints before after
PrintsShown (shown.History queue) before after = Looks before after
PrintsShown (shown.Deliveries behind) before after = Looks before after
PrintsShown (shown.Content path) before after = Looks before after

-- what is told of a file that is migrated
abbrev pub migrated_text : Migrated → List ℕ
migrated_text migrated.Done = codes "migrated 1 2"
migrated_text migrated.Already = codes "schema 2"

-- the input is left alone, and the output grows by what is told of a file, and an LF
pub record Migrates (before after : Streams) : Type 0 where
  pub done : Migrated
  pub unread : after.left ≡ before.left
  pub written : Appends before.held after.held (migrated_text done ++ 10 ∷ [])

-- what a command that is done has read and written; what it made of a file no stream tells
abbrev pub Does : Cmd → Streams → Streams → Type 0
Does (Check settings) before after = Checks before after
Does (Init settings file) before after = after ≡ before
Does (Replay settings status) before after = Replays status before after
Does (Deliver settings file) before after = Delivers before after
Does (Status settings file) before after = Prints before after
Does (History settings file queue) before after = Looks before after
Does (Deliveries settings file after_id) before after = Looks before after
Does (Get settings file path) before after = Looks before after
Does (Serve settings file port count) before after = Announces port before after
Does (Migrate settings file) before after = Migrates before after

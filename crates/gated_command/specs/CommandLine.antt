-- The command line, and what its matches say.
use Rattle.std.specs.Prelude.{◌≡◌, ◌⊎◌, ◌||◌, ◌&&◌, ℕ, Bool, List, [], ◌∷◌, codes, true, false, not, Option, Some, None}
use Rattle.std.specs.Prelude.{is_none, option_and_then, option_map, if◌then◌else◌}
use Rattle.std.specs.List.{list_all, list_any}
use Rattle.std.specs.Str.{bytes_eq}
use Rattle.std.specs.Str.Parse.{digits_value, without_leading_plus}
use Rattle.clap.specs.Words.{App, Row, Rule, Text, app_of, new_app, new_rule, with_rule, with_subcommand, first_of}
use Rattle.clap.specs.Words.{subcommand_of, fault_of, kind_of, HasKind}
use Rattle.clap.specs.declared.builder.command.Command.{Command}
use Rattle.clap.specs.declared.builder.command.Command.TheViews.{out-Command as fields_of}
use Rattle.clap.specs.declared.error.Error.{Error}
use Rattle.clap.specs.declared.error.kind.ErrorKind.{ErrorKind}
use Rattle.clap.specs.declared.error.kind.ErrorKind.TheVariants as kind
use Rattle.clap.specs.declared.builder.action.ArgAction.TheVariants.{SetTrue}
use Rattle.clap.specs.declared.builder.value_parser.ValueParser.TheVariants.{Unsigned}
use Rattle.clap.specs.ValueTests.{is_unsigned_in}
use Rattle.gated_command.specs.declared.words.Cmd.{Cmd}
use Rattle.gated_command.specs.declared.words.Cmd.TheVariants.{Check, Init, Replay, Deliver, Status, History}
use Rattle.gated_command.specs.declared.words.Cmd.TheVariants.{Deliveries, Get, Serve, Migrate}

-- the command, none of whose options goes for its subcommands too
abbrev pub IsCommand : App → Command → Type 0
IsCommand app command = (app_of command ≡ app) × ((fields_of command).has_globals ≡ false)

-- the settings file, a word that has to be there
abbrev pub settings_rule : Rule
settings_rule = record (new_rule (codes "settings")) { required = true; value_names = 1 }

-- the gate's file, the word behind
abbrev pub file_rule : Rule
file_rule = record (new_rule (codes "file")) { required = true; value_names = 1 }

-- the queue's name, the word behind
abbrev pub queue_rule : Rule
queue_rule = record (new_rule (codes "queue")) { required = true; value_names = 1 }

-- the option `--after`, whose value is an id
abbrev pub after_rule : Rule
after_rule = record (new_rule (codes "after")) { long = Some (codes "after"); value_names = 1 }

-- the path of a request, the word behind
abbrev pub path_rule : Rule
path_rule = record (new_rule (codes "path")) { required = true; value_names = 1 }

-- the flag `--status`
abbrev pub status_rule : Rule
status_rule = record (new_rule (codes "status")) { long = Some (codes "status"); action = Some SetTrue }

-- an option whose value is a number in a range, which has to be there
abbrev pub number_rule : Text → ℕ → ℕ → Rule
number_rule name least most = record (new_rule name) {
  long = Some name;
  parser = Some (Unsigned least most);
  required = true;
  value_names = 1;
}

-- `check SETTINGS`
abbrev pub check : App
check = with_rule (new_app (codes "check")) settings_rule

-- `replay SETTINGS [--status]`
abbrev pub replay : App
replay = with_rule (with_rule (new_app (codes "replay")) settings_rule) status_rule

-- a command with a settings file and the gate's file
abbrev pub over_file : Text → App
over_file name = with_rule (with_rule (new_app name) settings_rule) file_rule

-- `init SETTINGS FILE`
abbrev pub init : App
init = over_file (codes "init")

-- `deliver SETTINGS FILE`
abbrev pub deliver : App
deliver = over_file (codes "deliver")

-- `status SETTINGS FILE`
abbrev pub status : App
status = over_file (codes "status")

-- `history SETTINGS FILE QUEUE`
abbrev pub history : App
history = with_rule (over_file (codes "history")) queue_rule

-- `deliveries SETTINGS FILE [--after ID]`
abbrev pub deliveries : App
deliveries = with_rule (over_file (codes "deliveries")) after_rule

-- `get SETTINGS FILE PATH`
abbrev pub get : App
get = with_rule (over_file (codes "get")) path_rule

-- the highest port
abbrev pub most_port : ℕ
most_port = 65535

-- the most connections that a command serves
abbrev pub most_count : ℕ
most_count = 1000000000

-- `serve SETTINGS FILE --port P --count N`
abbrev pub serve : App
serve = with_rule (with_rule (over_file (codes "serve"))
    (number_rule (codes "port") 0 most_port)) (number_rule (codes "count") 1 most_count)

-- `migrate SETTINGS FILE`
abbrev pub migrate : App
migrate = over_file (codes "migrate")

-- the program's name, before any command
abbrev pub bare_gated : App
bare_gated = new_app (codes "gated")

-- the program's command line, which has a version, and where a command has to be given
abbrev pub gated : App
gated = with_subcommand (with_subcommand (with_subcommand (with_subcommand (with_subcommand (with_subcommand
    (with_subcommand (with_subcommand (with_subcommand (with_subcommand (record bare_gated {
      top = record bare_gated.top { has_version = true; subcommand_required = true };
    }) check.top) init.top) replay.top) deliver.top) status.top) history.top) deliveries.top) get.top) serve.top)
    migrate.top

-- what a command line says
pub data Instruction : Type 0 where
  check_of : Text → Instruction
  init_of : Text × Text → Instruction
  replay_of : Text → Bool → Instruction
  deliver_of : Text × Text → Instruction
  showing_of : Text × Text → Instruction
  history_of : Text × Text → Text → Instruction
  deliveries_of : Text × Text → Option Text → Instruction
  get_of : Text × Text → Text → Instruction
  serve_of : Text × Text → ℕ → ℕ → Instruction
  migrate_of : Text × Text → Instruction

-- what a command asks for
abbrev pub asks_for : Option Cmd → Option Instruction
asks_for None = None
asks_for (Some (Check settings)) = Some (check_of settings.now)
asks_for (Some (Init settings file)) = Some (init_of (settings.now, file.now))
asks_for (Some (Replay settings status)) = Some (replay_of settings.now status)
asks_for (Some (Deliver settings file)) = Some (deliver_of (settings.now, file.now))
asks_for (Some (Status settings file)) = Some (showing_of (settings.now, file.now))
asks_for (Some (History settings file queue)) = Some (history_of (settings.now, file.now) queue.now)
asks_for (Some (Deliveries settings file after)) =
    Some (deliveries_of (settings.now, file.now) (option_map (λ id. id.now) after))
asks_for (Some (Get settings file path)) = Some (get_of (settings.now, file.now) path.now)
asks_for (Some (Serve settings file port count)) = Some (serve_of (settings.now, file.now) port count)
asks_for (Some (Migrate settings file)) = Some (migrate_of (settings.now, file.now))

-- a flag was given
abbrev pub is_set : Option Text → Bool
is_set None = false
is_set (Some text) = bytes_eq text (codes "true")

-- the settings file and the gate's file
abbrev pub files_of : List Row → Option (Text × Text)
files_of rows =
    option_and_then (λ s. option_map (λ f. (s, f)) (first_of (codes "file") rows)) (first_of (codes "settings") rows)

-- the number that a text writes in digits, behind a plus or not, if it lies in a range
abbrev pub number_in : ℕ → ℕ → Text → Option ℕ
number_in least most text =
    if is_unsigned_in least most text then Some (digits_value 10 (without_leading_plus text)) else None

-- the port and the number of connections
abbrev pub numbers_of : List Row → Option (ℕ × ℕ)
numbers_of rows = option_and_then (λ p. option_map (λ n. (p, n))
    (option_and_then (number_in 1 most_count) (first_of (codes "count") rows)))
    (option_and_then (number_in 0 most_port) (first_of (codes "port") rows))

-- what `history` and its rows say
abbrev pub history_said : List Row → Option Instruction
history_said rows =
    option_and_then (λ f. option_map (λ q. history_of f q) (first_of (codes "queue") rows)) (files_of rows)

-- what `deliveries` and its rows say
abbrev pub deliveries_said : List Row → Option Instruction
deliveries_said rows = option_map (λ f. deliveries_of f (first_of (codes "after") rows)) (files_of rows)

-- what `get` and its rows say
abbrev pub get_said : List Row → Option Instruction
get_said rows = option_and_then (λ f. option_map (λ p. get_of f p) (first_of (codes "path") rows)) (files_of rows)

-- what `serve` and its rows say
abbrev pub serve_said : List Row → Option Instruction
serve_said rows = option_and_then (λ f. option_map (λ n. serve_of f n.0 n.1) (numbers_of rows)) (files_of rows)

-- what a subcommand and its rows say
abbrev pub said_of : Text × List Row → Option Instruction
said_of (name, rows) =
    if bytes_eq name (codes "check") then option_map check_of (first_of (codes "settings") rows) else (
    if bytes_eq name (codes "init") then option_map init_of (files_of rows) else (
    if bytes_eq name (codes "replay") then option_map
    (λ s. replay_of s (is_set (first_of (codes "status") rows))) (first_of (codes "settings") rows) else (
    if bytes_eq name (codes "deliver") then option_map deliver_of (files_of rows) else (
    if bytes_eq name (codes "status") then option_map showing_of (files_of rows) else (
    if bytes_eq name (codes "history") then history_said rows else (
    if bytes_eq name (codes "deliveries") then deliveries_said rows else (
    if bytes_eq name (codes "get") then get_said rows else (
    if bytes_eq name (codes "serve") then serve_said rows else (
    if bytes_eq name (codes "migrate") then option_map migrate_of (files_of rows) else None)))))))))

-- a command asks for what these rows say
abbrev pub IsSaidBy : Option Cmd → Option (Text × List Row) → Type 0
IsSaidBy cmd rows = asks_for cmd ≡ option_and_then said_of rows

-- what the words ask for, if they name a command
abbrev pub asked : List Text → Option Instruction
asked words = option_and_then said_of (subcommand_of gated words)

-- `clap` takes the words, and they name this command
pub record Names (words : List Text) (cmd : Cmd) : Type 0 where
  pub taken : fault_of gated words ≡ []
  pub named : asks_for (Some cmd) ≡ asked words

-- an error has a kind that `clap` finds in the words, or they name no command; or memory is refused
abbrev pub IsExplained : List Text → Error → Type 0
IsExplained words e =
    HasKind (fault_of gated words) e ⊎ ((kind_of e ≡ kind.MissingSubcommand) × (asked words ≡ None))

-- help was asked for, or the version
abbrev pub is_help : ErrorKind → Bool
is_help kind.DisplayHelp = true
is_help kind.DisplayVersion = true
is_help _ = false

-- there is no kind
abbrev pub is_without_fault : List ErrorKind → Bool
is_without_fault [] = true
is_without_fault (k ∷ ks) = false

-- `clap` refuses the words, and they ask for no help
abbrev pub is_refused : List Text → Bool
is_refused words =
    not (is_without_fault (fault_of gated words)) && list_all (λ k. not (is_help k)) (fault_of gated words)

-- `clap` may refuse the words, or they name no command
abbrev pub may_be_refused : List Text → Bool
may_be_refused words = list_any (λ k. not (is_help k)) (fault_of gated words) || is_none (asked words)

-- the words may ask for help
abbrev pub may_ask_help : List Text → Bool
may_ask_help words = list_any is_help (fault_of gated words)

-- What the program has done at each status.
use Rattle.std.specs.Prelude.{◌≡◌, ◌⊎◌, true, ℕ, List, Option, codes}
use Rattle.clap.specs.Words.{Text}
use Rattle.sqlite.specs.State.{State}
use Rattle.gate_types.specs.Tap.{has_failed}
use Rattle.gate_types.specs.declared.tap.Tap.{Tap}
use Rattle.gated_command.specs.CommandLine.{Names, may_ask_help}
use Rattle.gated_cli.specs.Blame.{Blames}
use Rattle.gated_cli.specs.Doing.{Streams, Does}
use Rattle.gated_cli.specs.OfFile.{Made}
use Rattle.gated_cli.specs.Ending.{EndsBy, TellsText}
use Rattle.gated_cli.specs.Faults.{line_of}
use Rattle.gated_cli.specs.Telling.{ToldBy, TellsBy}
use Rattle.gated_command.specs.declared.words.Cmd.{Cmd}
use Rattle.gated_cli.specs.declared.run.fault.Fault.{Fault}
use Rattle.gated_cli.specs.declared.run.fault.Fault.TheVariants as fault

-- the words name a command and it is done, over the file at its path where it has one, or they ask for help or the
-- version, the input is left alone and nothing is told
abbrev pub Obeys : {E : Type 0} → (List ℕ → (State → State → Type 0) → Type 0) → (E → Option (List ℕ)) → List Text →
    Streams → Streams → Tap E → Tap E → Type 0
Obeys Led held words before after old new =
    ((cmd : Cmd) × Names words cmd × Does cmd before after × Made Led cmd before after × ToldBy held cmd old new)
    ⊎ ((may_ask_help words ≡ true) × (after.left ≡ before.left) × (new ≡ old))

-- help or the version couldn't be given: there was no memory for it, or the output failed
abbrev pub HelpFails : {W : Type 0} → Fault → Tap W → Tap W → Type 0
HelpFails f old new =
    ((f ≡ fault.NoMemory) × (new ≡ old)) ⊎ ((f ≡ fault.Write) × (has_failed new ≡ true))

-- the same, and the input is left alone
abbrev pub HelpEndsBy : Fault → Streams → Streams → Type 0
HelpEndsBy f before after = (after.left ≡ before.left)
    × (((f ≡ fault.NoMemory) × (after ≡ before)) ⊎ ((f ≡ fault.Write) × (after.output_failed ≡ true)))

-- the words name a command and it ends with this fault, for the reason that it names, or they ask for help or the
-- version, which can't be given; it is told
abbrev pub FailsBy : {E W : Type 0} → (List ℕ → Type 0 → (State → State → Type 0) → Type 0) → (E → Option (List ℕ)) →
    (W → Option (List ℕ)) → Fault → List Text → Streams → Streams → Tap E → Tap E → Tap W → Tap W → Type 0
FailsBy Left told written f words before after old new from to =
    ((cmd : Cmd) × Names words cmd × EndsBy f cmd before after × TellsBy told f cmd old new
    × Blames Left written f cmd from to before after)
    ⊎ ((may_ask_help words ≡ true) × HelpEndsBy f before after × TellsText told old new (line_of f))

-- what is told where there is no memory to tell more
abbrev pub out_of_memory : List ℕ
out_of_memory = codes "error: out of memory\n"

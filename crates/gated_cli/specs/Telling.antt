-- What is told on the errors, beside what a command reads and writes.
use Rattle.std.specs.Prelude.{◌≡◌, ◌≤◌, ℕ, List, ◌++◌, length, Option}
use Rattle.gate_types.specs.declared.tap.Tap.{Tap}
use Rattle.gate_http.specs.declared.request_fault.RequestFault.{RequestFault}
use Rattle.gate_http.specs.Connections.{FaultsAreTold, fault_lines}
use Rattle.gated_cli.specs.Ending.{TellsText}
use Rattle.gated_cli.specs.Faults.{line_of}
use Rattle.gated_command.specs.declared.words.Cmd.{Cmd}
use Rattle.gated_command.specs.declared.words.Cmd.TheVariants.{Check, Init, Replay, Deliver, Status, History}
use Rattle.gated_command.specs.declared.words.Cmd.TheVariants.{Deliveries, Get, Serve, Migrate}
use Rattle.gated_cli.specs.declared.run.fault.Fault.{Fault}

-- at most so many faults of connections are told, by a line each; a writer that failed took a beginning
abbrev pub TellsUpTo : {E : Type 0} → (E → Option (List ℕ)) → ℕ → Tap E → Tap E → Type 0
TellsUpTo held most old new = (faults : List RequestFault) × (length faults ≤ most) × FaultsAreTold held old new faults

-- what a command has told that is done: nothing, but of a server the faults of connections
abbrev pub ToldBy : {E : Type 0} → (E → Option (List ℕ)) → Cmd → Tap E → Tap E → Type 0
ToldBy held (Check settings) old new = new ≡ old
ToldBy held (Init settings file) old new = new ≡ old
ToldBy held (Replay settings status) old new = new ≡ old
ToldBy held (Deliver settings file) old new = new ≡ old
ToldBy held (Status settings file) old new = new ≡ old
ToldBy held (History settings file queue) old new = new ≡ old
ToldBy held (Deliveries settings file after_id) old new = new ≡ old
ToldBy held (Get settings file path) old new = new ≡ old
ToldBy held (Serve settings file port count) old new = TellsUpTo held count old new
ToldBy held (Migrate settings file) old new = new ≡ old

-- what a command that ended with a fault has told: the fault's line, behind the faults of connections for a server
abbrev pub TellsBy : {E : Type 0} → (E → Option (List ℕ)) → Fault → Cmd → Tap E → Tap E → Type 0
TellsBy held fault (Check settings) old new = TellsText held old new (line_of fault)
TellsBy held fault (Init settings file) old new = TellsText held old new (line_of fault)
TellsBy held fault (Replay settings status) old new = TellsText held old new (line_of fault)
TellsBy held fault (Deliver settings file) old new = TellsText held old new (line_of fault)
TellsBy held fault (Status settings file) old new = TellsText held old new (line_of fault)
TellsBy held fault (History settings file queue) old new = TellsText held old new (line_of fault)
TellsBy held fault (Deliveries settings file after_id) old new = TellsText held old new (line_of fault)
TellsBy held fault (Get settings file path) old new = TellsText held old new (line_of fault)
TellsBy held fault (Serve settings file port count) old new = (faults : List RequestFault) × (length faults ≤ count)
    × TellsText held old new (fault_lines faults ++ line_of fault)
TellsBy held fault (Migrate settings file) old new = TellsText held old new (line_of fault)

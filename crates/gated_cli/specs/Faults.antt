-- What is told of a fault.
use Rattle.std.specs.Prelude.{ℕ, List, codes}
use Rattle.gate_config.specs.Words.{config_fault_text}
use Rattle.gate_archive.specs.declared.fault.FeedFault.{FeedFault}
use Rattle.gate_archive.specs.declared.fault.FeedFault.TheVariants as feed
use Rattle.gate_book_trait.specs.declared.fault.HistoryFault.{HistoryFault}
use Rattle.gate_book_trait.specs.declared.fault.HistoryFault.TheVariants as history
use Rattle.gate_core.specs.declared.fault.ReplayFault.{ReplayFault}
use Rattle.gate_core.specs.declared.fault.ReplayFault.TheVariants as replay
use Rattle.gate_http.specs.declared.request_fault.RequestFault.{RequestFault}
use Rattle.gate_http.specs.declared.request_fault.RequestFault.TheVariants as request
use Rattle.gate_http.specs.RequestFaults.{request_fault_text}
use Rattle.gate_http.specs.Connections.{fault_line}
use Rattle.gate_types.specs.OpenFaults.{open_fault_text}
use Rattle.gated_cli.specs.declared.run.fault.Fault.{Fault}
use Rattle.gated_cli.specs.declared.run.fault.Fault.TheVariants as fault

-- a fault's number, a space and its word
abbrev pub command_fault_text : Fault → List ℕ
command_fault_text (fault.Settings f) = config_fault_text f
command_fault_text (fault.File f) = open_fault_text f
command_fault_text fault.Unavailable = codes "E15 unavailable"
command_fault_text fault.Read = request_fault_text request.Read
command_fault_text fault.Write = request_fault_text request.Write
command_fault_text fault.NoMemory = request_fault_text request.NoMemory
command_fault_text fault.Listener = codes "I4 listen"
command_fault_text fault.SettingsFile = codes "I5 settings-file"
command_fault_text fault.NoQueue = codes "I6 no-queue"
command_fault_text fault.Store = request_fault_text request.Store
command_fault_text fault.NoDelivery = codes "I8 no-delivery"
command_fault_text fault.Refused = codes "I9 refused"

-- the line that tells a fault
abbrev pub line_of : Fault → List ℕ
line_of f = fault_line (command_fault_text f)

-- a fault of a replay
abbrev pub of_replay : ReplayFault → Fault
of_replay replay.Read = fault.Read
of_replay replay.Write = fault.Write
of_replay replay.NoMemory = fault.NoMemory

-- a fault of a request
abbrev pub of_request : RequestFault → Fault
of_request request.Read = fault.Read
of_request request.Write = fault.Write
of_request request.NoMemory = fault.NoMemory
of_request request.Store = fault.Store

-- a fault of a history
abbrev pub of_history : HistoryFault → Fault
of_history history.NoQueue = fault.NoQueue
of_history history.Unavailable = fault.Unavailable
of_history history.Broken = fault.Store
of_history history.Write = fault.Write

-- a fault of printing deliveries
abbrev pub of_feed : FeedFault → Fault
of_feed feed.NoDelivery = fault.NoDelivery
of_feed feed.Unavailable = fault.Unavailable
of_feed feed.Broken = fault.Store
of_feed feed.Write = fault.Write

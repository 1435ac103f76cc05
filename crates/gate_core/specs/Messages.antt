-- What `{}` prints of a fault of a replay.
use Rattle.std.specs.Prelude.{ℕ, List, codes}
use Rattle.gate_core.specs.declared.fault.ReplayFault.{ReplayFault}
use Rattle.gate_core.specs.declared.fault.ReplayFault.TheVariants as fault

abbrev pub replay_fault_message : ReplayFault → List ℕ
replay_fault_message fault.Read = codes "the reader failed"
replay_fault_message fault.Write = codes "the writer failed"
replay_fault_message fault.NoMemory = codes "memory was refused before anything was read"

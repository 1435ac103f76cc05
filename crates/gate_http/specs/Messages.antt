-- What `{}` prints of why lines were not written whole.
use Rattle.std.specs.Prelude.{ℕ, List, codes}
use Rattle.gate_http.specs.declared.respond.StreamFault.{StreamFault}
use Rattle.gate_http.specs.declared.respond.StreamFault.TheVariants as fault

abbrev pub stream_fault_message : StreamFault → List ℕ
stream_fault_message fault.Missing = codes "there is no such queue, or no such delivery"
stream_fault_message fault.Unavailable = codes "the store failed or memory was refused, and nothing was written"
stream_fault_message fault.Broken = codes "the store failed or memory was refused, and a beginning was written"
stream_fault_message fault.Write = codes "the writer failed, and a beginning was written"

-- How a fault that ends a request is told.
use Rattle.std.specs.Prelude.{ℕ, List, codes}
use Rattle.gate_http.specs.declared.request_fault.RequestFault.{RequestFault}
use Rattle.gate_http.specs.declared.request_fault.RequestFault.TheVariants as fault

-- a fault's number, a space and its word
abbrev pub request_fault_text : RequestFault → List ℕ
request_fault_text fault.Read = codes "I1 read"
request_fault_text fault.Write = codes "I2 write"
request_fault_text fault.NoMemory = codes "I3 no-memory"
request_fault_text fault.Store = codes "I7 store"

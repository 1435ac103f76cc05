-- How it is told why a book isn't opened, made or given other settings.
use Rattle.std.specs.Prelude.{ℕ, List, codes}
use Rattle.gate_types.specs.declared.open_fault.OpenFault.{OpenFault}
use Rattle.gate_types.specs.declared.open_fault.OpenFault.TheVariants as fault

-- a fault's number, a space and its word
abbrev pub open_fault_text : OpenFault → List ℕ
open_fault_text fault.WrongFile = codes "O1 wrong-file"
open_fault_text fault.OtherSchema = codes "O2 other-schema"
open_fault_text fault.OtherSettings = codes "O3 other-settings"
open_fault_text fault.Unavailable = codes "O4 unavailable"

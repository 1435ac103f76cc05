-- What `{}` prints of a fault of a text.
use Rattle.std.specs.Prelude.{ℕ, List, codes}
use Rattle.gate_kept_settings.specs.declared.fault.TextFault.{TextFault}
use Rattle.gate_kept_settings.specs.declared.fault.TextFault.TheVariants as fault

abbrev pub text_fault_message : TextFault → List ℕ
text_fault_message fault.NotSettings = codes "the text is of no settings"
text_fault_message fault.NoMemory = codes "memory was refused"

-- The number and the word of each fault.
use Rattle.std.specs.Prelude.{ℕ, List, ◌++◌, codes}
use Rattle.gate_config.specs.declared.fault.ConfigFault.{ConfigFault}
use Rattle.gate_config.specs.declared.fault.ConfigFault.TheVariants as fault

-- the number of a fault: of two that apply, the lower one is answered
abbrev pub fault_number : ConfigFault → ℕ
fault_number fault.NotToml = 1
fault_number fault.MissingMember = 2
fault_number fault.WrongKind = 3
fault_number fault.UnknownMember = 4
fault_number fault.BadName = 5
fault_number fault.DoubleName = 6
fault_number fault.UnknownQueue = 7
fault_number fault.BadWindow = 8
fault_number fault.NoVotingJob = 9
fault_number fault.Limit = 10
fault_number fault.NoMemory = 11

-- the word that is printed for a fault
abbrev pub word_of : ConfigFault → List ℕ
word_of fault.NotToml = codes "not-toml"
word_of fault.MissingMember = codes "missing-member"
word_of fault.WrongKind = codes "wrong-kind"
word_of fault.UnknownMember = codes "unknown-member"
word_of fault.BadName = codes "bad-name"
word_of fault.DoubleName = codes "double-name"
word_of fault.UnknownQueue = codes "unknown-queue"
word_of fault.BadWindow = codes "bad-window"
word_of fault.NoVotingJob = codes "no-voting-job"
word_of fault.Limit = codes "limit"
word_of fault.NoMemory = codes "no-memory"

-- the number of a fault as it is printed
abbrev pub fault_number_text : ConfigFault → List ℕ
fault_number_text fault.NotToml = codes "C1"
fault_number_text fault.MissingMember = codes "C2"
fault_number_text fault.WrongKind = codes "C3"
fault_number_text fault.UnknownMember = codes "C4"
fault_number_text fault.BadName = codes "C5"
fault_number_text fault.DoubleName = codes "C6"
fault_number_text fault.UnknownQueue = codes "C7"
fault_number_text fault.BadWindow = codes "C8"
fault_number_text fault.NoVotingJob = codes "C9"
fault_number_text fault.Limit = codes "C10"
fault_number_text fault.NoMemory = codes "C11"

-- a fault's number, a space and its word
abbrev pub config_fault_text : ConfigFault → List ℕ
config_fault_text f = fault_number_text f ++ codes " " ++ word_of f

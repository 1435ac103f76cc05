-- What the bytes of a settings file say.
use Rattle.std.specs.Prelude.{◌≡◌, ℕ, List, ⊤, if◌then◌else◌, Option, Some, None, option_map, Result, Ok, Err}
use Rattle.std.specs.Str.{is_utf8}
use Rattle.toml.specs.Data.{Data, table}
use Rattle.toml.specs.Parse.{parse_document}
use Rattle.gate_types.specs.Settings.{Settings}
use Rattle.gate_config.specs.Document.{said_settings}
use Rattle.gate_config.specs.Faults.{fault_of}
use Rattle.gate_config.specs.declared.fault.ConfigFault.{ConfigFault}
use Rattle.gate_config.specs.declared.fault.ConfigFault.TheVariants as fault

-- the document, if the bytes are UTF-8 and the reader of TOML takes them
unfoldable pub document : List ℕ → Option Data
document bytes = if is_utf8 bytes then option_map table (parse_document bytes) else None

-- the settings, unless there is a fault
abbrev pub settings_unless : Option ConfigFault → Data → Result Settings ConfigFault
settings_unless (Some f) d = Err f
settings_unless None d = Ok (said_settings d)

-- the settings of a document without a fault, or the least fault
abbrev pub read_from : Option Data → Result Settings ConfigFault
read_from None = Err fault.NotToml
read_from (Some d) = settings_unless (fault_of d) d

-- the same of bytes
abbrev pub said_by : List ℕ → Result Settings ConfigFault
said_by bytes = read_from (document bytes)

-- a call's answer is just what the bytes say, unless memory was refused
abbrev pub GivesSettings : Result Settings ConfigFault → Result Settings ConfigFault → Type 0
GivesSettings (Err fault.NoMemory) said = ⊤
GivesSettings answer said = said ≡ answer

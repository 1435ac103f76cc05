-- The gate as its callers see it.
use Rattle.gate_types.specs.Settings.{Settings}
use Rattle.gate_types.specs.Once.{Content, empty}

-- the settings in force, the state, and the replies that are kept
pub record Gated : Type 0 where
  pub settings : Settings
  pub content : Content

-- a gate before its first delivery
abbrev pub new_gate : Settings → Gated
new_gate c = record { settings = c; content = empty c }

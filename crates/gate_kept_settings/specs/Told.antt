-- What a kept text tells.
use Rattle.std.specs.Prelude.{◌≡◌, ℕ, List, true}
use Rattle.gate_types.specs.Settings.{Settings, are_sound}
use Rattle.gate_types.specs.Forms.{are_settings_in_form}
use Rattle.gate_types.specs.SettingsText.{settings_text}

-- the text is that of settings that are sound and in form
pub record SaysSettings (text : List ℕ) (c : Settings) : Type 0 where
  pub sound : are_sound c ≡ true
  pub in_form : are_settings_in_form c ≡ true
  pub is : text ≡ settings_text c

-- settings that are sound and in form have equal texts only where they are equal
abbrev pub OneTextASetting : Type 0
OneTextASetting = (text : List ℕ) (c d : Settings) → SaysSettings text c → SaysSettings text d → c ≡ d

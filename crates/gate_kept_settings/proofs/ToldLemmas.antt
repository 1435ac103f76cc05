-- What an answer tells of a text.
use Rattle.std.proofs.Common.{◌≡◌, ℕ, true, List, Some, Err, refl, sym, ap, ◌∙◌}
use Rattle.std.specs.Str.{bytes_eq}
use Rattle.std.proofs.lemmas.Slice.Eq.{bytes_eq-Decides}
use Rattle.gate_types.specs.Settings.{Settings}
use Rattle.gate_types.specs.SettingsText.{settings_text}
use Rattle.gate_kept_settings.specs.declared.fault.TextFault.{TextFault}
use Rattle.gate_kept_settings.specs.declared.fault.TextFault.TheVariants as fault
use Rattle.gate_kept_settings.specs.Reading.{GivesKept, kept_said_by}
use Rattle.gate_kept_settings.specs.Told.{SaysSettings}
use Rattle.gate_kept_settings.proofs.FormLemmas.{said_is_good, same}
use Rattle.gate_kept_settings.proofs.SettingsData.{settings_found}

-- settings that are said, and whose text it is, are told
pub says_settings : (text : List ℕ) (c : Settings) → kept_said_by text ≡ Some c → text ≡ settings_text c → SaysSettings text c
says_settings text c e is = let (sound, in_form) = said_is_good text c e in record { sound = sound; in_form = in_form; is = is }

-- a text tells what it says
pub told_is : (text : List ℕ) (c d : Settings) → SaysSettings text c → kept_said_by text ≡ Some d → d ≡ c
told_is text c d h e = same d c (sym e ∙ settings_found text c h)

-- a text that tells settings says something
pub told_unless : (text : List ℕ) (c : Settings) (e : TextFault) → SaysSettings text c → GivesKept {X = Settings} (λ x. x) (Err e) (kept_said_by text) → e ≡ fault.NoMemory
told_unless text c fault.NotSettings h none = let found = settings_found text c h in absurd (cc (none, found))
told_unless text c fault.NoMemory h none = refl

-- nor is it another text than theirs
pub told_text : (text written : List ℕ) (c d : Settings) → SaysSettings text c → kept_said_by text ≡ Some d → written ≡ settings_text d → bytes_eq written text ≡ true
told_text text written c d h e w = (bytes_eq-Decides written text).1 (w ∙ ap settings_text (told_is text c d h e) ∙ sym h.is)

use Rattle.gate_kept_settings.proofs.SettingsData as law
use Rattle.gate_kept_settings.proofs.laws.one_text_a_setting.Goals as goal

pub returns : goal.returns
returns c = law.one_text_a_setting

use Rattle.gate_laws.proofs.SameSettingsStay as law
use Rattle.gate_laws.proofs.adoption.same_settings_stay.Goals as goal

pub returns : goal.returns
returns c = law.same_settings_stay

use Rattle.gate_laws.proofs.AdoptedIsSound as law
use Rattle.gate_laws.proofs.adoption.adopted_is_sound.Goals as goal

pub returns : goal.returns
returns c = law.adopted_is_sound

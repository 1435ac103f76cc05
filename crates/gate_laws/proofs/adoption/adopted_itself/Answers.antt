use Rattle.gate_laws.proofs.AdoptedItself as law
use Rattle.gate_laws.proofs.adoption.adopted_itself.Goals as goal

pub returns : goal.returns
returns c = law.adopted_itself

use Rattle.gate_laws.proofs.AdoptedIsLawful as law
use Rattle.gate_laws.proofs.adoption.adopted_content_is_lawful.Goals as goal

pub returns : goal.returns
returns c = law.adopted_content_is_lawful

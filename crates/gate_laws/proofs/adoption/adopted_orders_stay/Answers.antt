use Rattle.gate_laws.proofs.AdoptedIsLawful as law
use Rattle.gate_laws.proofs.adoption.adopted_orders_stay.Goals as goal

pub returns : goal.returns
returns c = law.adopted_orders_stay

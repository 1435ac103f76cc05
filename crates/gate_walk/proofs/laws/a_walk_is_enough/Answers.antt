use Rattle.gate_walk.proofs.Deliveries as law
use Rattle.gate_walk.proofs.laws.a_walk_is_enough.Goals as goal

pub returns : goal.returns
returns c = law.a_walk_is_enough

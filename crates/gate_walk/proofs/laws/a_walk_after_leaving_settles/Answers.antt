use Rattle.gate_walk.proofs.Touching as law
use Rattle.gate_walk.proofs.laws.a_walk_after_leaving_settles.Goals as goal

pub returns : goal.returns
returns c = law.walk_after_leaving

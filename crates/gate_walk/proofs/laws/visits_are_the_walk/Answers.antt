use Rattle.gate_walk.proofs.NextRows as law
use Rattle.gate_walk.proofs.laws.visits_are_the_walk.Goals as goal

pub returns : goal.returns
returns c = law.visits_are_the_walk

use Rattle.gate_walk.proofs.GoesOn as law
use Rattle.gate_walk.proofs.laws.visits_go_on.Goals as goal

pub returns : goal.returns
returns c = law.visits_go_on

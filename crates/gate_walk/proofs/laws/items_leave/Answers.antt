use Rattle.gate_walk.proofs.Leaving as law
use Rattle.gate_walk.proofs.laws.items_leave.Goals as goal

pub returns : goal.returns
returns c = law.items_leave

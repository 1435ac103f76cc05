use Rattle.gate_walk.proofs.NextRows as law
use Rattle.gate_walk.proofs.laws.a_walk_stops.Goals as goal

pub returns : goal.returns
returns c = law.walk_stops

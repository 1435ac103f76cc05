use Rattle.gate_laws.proofs.LogIsTheGate as law
use Rattle.gate_laws.proofs.feed.log_is_the_gate.Goals as goal

pub returns : goal.returns
returns c = law.log_is_the_gate

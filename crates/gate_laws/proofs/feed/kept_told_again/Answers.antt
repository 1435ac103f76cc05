use Rattle.gate_laws.proofs.LogIsTheGate as law
use Rattle.gate_laws.proofs.feed.kept_told_again.Goals as goal

pub returns : goal.returns
returns c = law.kept_told_again

use Rattle.gate_laws.proofs.LogIsTheGate as law
use Rattle.gate_laws.proofs.feed.acting_calls_are_kept.Goals as goal

pub returns : goal.returns
returns c = law.acting_calls_are_kept

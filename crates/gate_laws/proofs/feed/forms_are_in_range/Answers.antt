use Rattle.gate_laws.proofs.LogIsTheGate as law
use Rattle.gate_laws.proofs.feed.forms_are_in_range.Goals as goal

pub returns : goal.returns
returns c = law.forms_are_in_range

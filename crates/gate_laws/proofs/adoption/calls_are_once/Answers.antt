use Rattle.gate_laws.proofs.EventsAreLawful as law
use Rattle.gate_laws.proofs.adoption.calls_are_once.Goals as goal

pub returns : goal.returns
returns c = law.calls_are_once

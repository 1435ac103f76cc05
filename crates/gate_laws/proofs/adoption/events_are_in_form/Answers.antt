use Rattle.gate_laws.proofs.EventsAreLawful as law
use Rattle.gate_laws.proofs.adoption.events_are_in_form.Goals as goal

pub returns : goal.returns
returns c = law.events_are_in_form

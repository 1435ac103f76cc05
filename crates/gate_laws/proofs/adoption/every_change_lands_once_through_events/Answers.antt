use Rattle.gate_laws.proofs.EventsAreLawful as law
use Rattle.gate_laws.proofs.adoption.every_change_lands_once_through_events.Goals as goal

pub returns : goal.returns
returns c = law.every_change_lands_once_through_events

use Rattle.gate_laws.proofs.EventsAreLawful as law
use Rattle.gate_laws.proofs.adoption.every_landing_is_shown_through_events.Goals as goal

pub returns : goal.returns
returns c = law.every_landing_is_shown_through_events

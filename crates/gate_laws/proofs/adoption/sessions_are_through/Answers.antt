use Rattle.gate_laws.proofs.SessionsAreThrough as law
use Rattle.gate_laws.proofs.adoption.sessions_are_through.Goals as goal

pub returns : goal.returns
returns c = law.sessions_are_through

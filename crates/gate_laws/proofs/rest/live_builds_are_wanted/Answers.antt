use Rattle.gate_laws.proofs.LiveBuildsCount as law
use Rattle.gate_laws.proofs.rest.live_builds_are_wanted.Goals as goal

pub returns : goal.returns
returns c = law.live_builds_are_wanted

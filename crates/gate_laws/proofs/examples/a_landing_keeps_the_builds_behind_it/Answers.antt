use Rattle.gate_laws.proofs.LandingExamplesComputed.{a_landing_keeps_the_builds_behind_it}
use Rattle.gate_laws.proofs.examples.a_landing_keeps_the_builds_behind_it.Goals as goal

pub returns : goal.returns
returns c = a_landing_keeps_the_builds_behind_it

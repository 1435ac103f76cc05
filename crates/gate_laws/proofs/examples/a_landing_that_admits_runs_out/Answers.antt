use Rattle.gate_laws.proofs.LimitExamplesComputed.{a_landing_that_admits_runs_out}
use Rattle.gate_laws.proofs.examples.a_landing_that_admits_runs_out.Goals as goal

pub returns : goal.returns
returns c = a_landing_that_admits_runs_out

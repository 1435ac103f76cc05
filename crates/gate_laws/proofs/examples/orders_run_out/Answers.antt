use Rattle.gate_laws.proofs.LimitExamplesComputed.{orders_run_out}
use Rattle.gate_laws.proofs.examples.orders_run_out.Goals as goal

pub returns : goal.returns
returns c = orders_run_out

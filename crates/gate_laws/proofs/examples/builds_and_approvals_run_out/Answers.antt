use Rattle.gate_laws.proofs.LimitExamplesComputed.{builds_and_approvals_run_out}
use Rattle.gate_laws.proofs.examples.builds_and_approvals_run_out.Goals as goal

pub returns : goal.returns
returns c = builds_and_approvals_run_out

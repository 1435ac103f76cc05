use Rattle.gate_laws.proofs.FastExamplesComputed.{a_fast_failure_goes_at_once}
use Rattle.gate_laws.proofs.examples.a_fast_failure_goes_at_once.Goals as goal

pub returns : goal.returns
returns c = a_fast_failure_goes_at_once

use Rattle.gate_laws.proofs.DeliveryExamplesComputed.{an_unavailable_call_may_come_again}
use Rattle.gate_laws.proofs.examples.an_unavailable_call_may_come_again.Goals as goal

pub returns : goal.returns
returns c = an_unavailable_call_may_come_again

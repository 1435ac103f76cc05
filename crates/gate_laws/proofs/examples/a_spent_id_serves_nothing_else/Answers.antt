use Rattle.gate_laws.proofs.DeliveryExamplesComputed.{a_spent_id_serves_nothing_else}
use Rattle.gate_laws.proofs.examples.a_spent_id_serves_nothing_else.Goals as goal

pub returns : goal.returns
returns c = a_spent_id_serves_nothing_else

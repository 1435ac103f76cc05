use Rattle.gate_laws.proofs.DeliveryExamplesComputed.{a_refusal_spends_no_id}
use Rattle.gate_laws.proofs.examples.a_refusal_spends_no_id.Goals as goal

pub returns : goal.returns
returns c = a_refusal_spends_no_id

use Rattle.gate_laws.proofs.NeedExamplesComputed.{a_need_in_another_queue_lands_first}
use Rattle.gate_laws.proofs.examples.a_need_in_another_queue_lands_first.Goals as goal

pub returns : goal.returns
returns c = a_need_in_another_queue_lands_first

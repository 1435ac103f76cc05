use Rattle.gate_laws.proofs.DeliveryExamplesComputed.{a_repeat_gets_the_kept_reply}
use Rattle.gate_laws.proofs.examples.a_repeat_gets_the_kept_reply.Goals as goal

pub returns : goal.returns
returns c = a_repeat_gets_the_kept_reply

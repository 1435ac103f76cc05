use Rattle.gate_laws.proofs.NeedExamplesComputed.{a_need_admits_the_waiting_change}
use Rattle.gate_laws.proofs.examples.a_need_admits_the_waiting_change.Goals as goal

pub returns : goal.returns
returns c = a_need_admits_the_waiting_change

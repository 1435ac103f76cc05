use Rattle.gate_laws.proofs.NeedExamplesComputed.{a_cycle_waits}
use Rattle.gate_laws.proofs.examples.a_cycle_waits.Goals as goal

pub returns : goal.returns
returns c = a_cycle_waits

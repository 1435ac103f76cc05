use Rattle.gate_laws.proofs.BuildExamplesComputed.{builds_are_given_front_to_back}
use Rattle.gate_laws.proofs.examples.builds_are_given_front_to_back.Goals as goal

pub returns : goal.returns
returns c = builds_are_given_front_to_back

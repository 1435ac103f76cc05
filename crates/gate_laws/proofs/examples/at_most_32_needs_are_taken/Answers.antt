use Rattle.gate_laws.proofs.NeedExamplesComputed.{at_most_32_needs_are_taken}
use Rattle.gate_laws.proofs.examples.at_most_32_needs_are_taken.Goals as goal

pub returns : goal.returns
returns c = at_most_32_needs_are_taken

use Rattle.gate_laws.proofs.LandingExamplesComputed.{an_item_lands_before_a_failing_one}
use Rattle.gate_laws.proofs.examples.an_item_lands_before_a_failing_one.Goals as goal

pub returns : goal.returns
returns c = an_item_lands_before_a_failing_one

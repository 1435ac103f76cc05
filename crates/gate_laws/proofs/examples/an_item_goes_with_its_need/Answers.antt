use Rattle.gate_laws.proofs.NeedExamplesComputed.{an_item_goes_with_its_need}
use Rattle.gate_laws.proofs.examples.an_item_goes_with_its_need.Goals as goal

pub returns : goal.returns
returns c = an_item_goes_with_its_need

use Rattle.gate_laws.proofs.NeedExamplesComputed.{footers_name_needs}
use Rattle.gate_laws.proofs.examples.footers_name_needs.Goals as goal

pub returns : goal.returns
returns c = footers_name_needs

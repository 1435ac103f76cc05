use Rattle.gate_laws.proofs.BuildExamplesComputed.{a_failure_behind_an_item_stays}
use Rattle.gate_laws.proofs.examples.a_failure_behind_an_item_stays.Goals as goal

pub returns : goal.returns
returns c = a_failure_behind_an_item_stays

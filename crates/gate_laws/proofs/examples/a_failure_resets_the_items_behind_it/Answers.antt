use Rattle.gate_laws.proofs.BuildExamplesComputed.{a_failure_resets_the_items_behind_it}
use Rattle.gate_laws.proofs.examples.a_failure_resets_the_items_behind_it.Goals as goal

pub returns : goal.returns
returns c = a_failure_resets_the_items_behind_it

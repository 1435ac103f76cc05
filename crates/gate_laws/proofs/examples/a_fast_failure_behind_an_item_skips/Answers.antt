use Rattle.gate_laws.proofs.FastExamplesComputed.{a_fast_failure_behind_an_item_skips}
use Rattle.gate_laws.proofs.examples.a_fast_failure_behind_an_item_skips.Goals as goal

pub returns : goal.returns
returns c = a_fast_failure_behind_an_item_skips

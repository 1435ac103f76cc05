use Rattle.gate_laws.proofs.AdoptionExamplesComputed.{an_item_keeps_fail_fast}
use Rattle.gate_laws.proofs.examples.an_item_keeps_fail_fast.Goals as goal

pub returns : goal.returns
returns c = an_item_keeps_fail_fast

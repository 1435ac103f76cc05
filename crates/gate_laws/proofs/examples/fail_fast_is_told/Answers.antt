use Rattle.gate_laws.proofs.FastExamplesComputed.{fail_fast_is_told}
use Rattle.gate_laws.proofs.examples.fail_fast_is_told.Goals as goal

pub returns : goal.returns
returns c = fail_fast_is_told

use Rattle.gate_laws.proofs.LimitExamplesComputed.{a_window_of_0_sets_no_bound}
use Rattle.gate_laws.proofs.examples.a_window_of_0_sets_no_bound.Goals as goal

pub returns : goal.returns
returns c = a_window_of_0_sets_no_bound

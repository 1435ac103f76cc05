use Rattle.gate_laws.proofs.LimitExamplesComputed.{the_window_at_its_ends}
use Rattle.gate_laws.proofs.examples.the_window_at_its_ends.Goals as goal

pub returns : goal.returns
returns c = the_window_at_its_ends

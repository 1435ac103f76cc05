use Rattle.gate_laws.proofs.LandingExamplesComputed.{the_window_grows_before_it_shrinks}
use Rattle.gate_laws.proofs.examples.the_window_grows_before_it_shrinks.Goals as goal

pub returns : goal.returns
returns c = the_window_grows_before_it_shrinks

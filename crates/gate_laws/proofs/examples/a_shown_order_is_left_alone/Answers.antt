use Rattle.gate_laws.proofs.LandingExamplesComputed.{a_shown_order_is_left_alone}
use Rattle.gate_laws.proofs.examples.a_shown_order_is_left_alone.Goals as goal

pub returns : goal.returns
returns c = a_shown_order_is_left_alone

use Rattle.gate_laws.proofs.AdoptionExamplesComputed.{a_window_is_adopted}
use Rattle.gate_laws.proofs.examples.a_window_is_adopted.Goals as goal

pub returns : goal.returns
returns c = a_window_is_adopted

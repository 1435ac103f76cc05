use Rattle.gate_laws.proofs.BuildExamplesComputed.{a_lost_build_is_tried_three_times}
use Rattle.gate_laws.proofs.examples.a_lost_build_is_tried_three_times.Goals as goal

pub returns : goal.returns
returns c = a_lost_build_is_tried_three_times

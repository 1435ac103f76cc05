use Rattle.gate_laws.proofs.BuildExamplesComputed.{losses_on_two_lines_arent_added}
use Rattle.gate_laws.proofs.examples.losses_on_two_lines_arent_added.Goals as goal

pub returns : goal.returns
returns c = losses_on_two_lines_arent_added

use Rattle.gate_laws.proofs.LandingExamplesComputed.{each_queue_shows_its_order}
use Rattle.gate_laws.proofs.examples.each_queue_shows_its_order.Goals as goal

pub returns : goal.returns
returns c = each_queue_shows_its_order

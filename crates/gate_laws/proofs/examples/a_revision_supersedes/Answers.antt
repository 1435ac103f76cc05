use Rattle.gate_laws.proofs.DeliveryExamplesComputed.{a_revision_supersedes}
use Rattle.gate_laws.proofs.examples.a_revision_supersedes.Goals as goal

pub returns : goal.returns
returns c = a_revision_supersedes

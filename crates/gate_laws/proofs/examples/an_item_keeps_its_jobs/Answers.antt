use Rattle.gate_laws.proofs.AdoptionExamplesComputed.{an_item_keeps_its_jobs}
use Rattle.gate_laws.proofs.examples.an_item_keeps_its_jobs.Goals as goal

pub returns : goal.returns
returns c = an_item_keeps_its_jobs

use Rattle.gate_laws.proofs.LandingExamplesComputed.{a_job_that_doesnt_vote_decides_nothing}
use Rattle.gate_laws.proofs.examples.a_job_that_doesnt_vote_decides_nothing.Goals as goal

pub returns : goal.returns
returns c = a_job_that_doesnt_vote_decides_nothing

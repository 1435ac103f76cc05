use Rattle.gate_laws.proofs.FastExamplesComputed.{a_job_that_doesnt_vote_skips_nothing}
use Rattle.gate_laws.proofs.examples.a_job_that_doesnt_vote_skips_nothing.Goals as goal

pub returns : goal.returns
returns c = a_job_that_doesnt_vote_skips_nothing

use Rattle.gated_cli.proofs.CheckLemmas.{few_jobs}
use Rattle.gated_cli.proofs.run.check.check_text.Goals as goal

pub job_count-jobs-requires : goal.job_count-jobs-requires
job_count-jobs-requires c = rw c.as_slice-3.ensures (few_jobs (record { base = c.config.inside.base; queues = c.config.inside.queues; projects = c.config.inside.projects }) c.config.invariant)

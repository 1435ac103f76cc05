use Rattle.std.proofs.Common.{◌≡◌, take, length}
use Rattle.std.specs.List.{sum_by}
use Rattle.gated_cli.proofs.run.check.job_count.Given as goal

abbrev pub invariant-loop-project : goal.invariant-loop-project
invariant-loop-project l = l.count ≡ sum_by (λ p. length p.jobs) (take l.project-index l.projects)

use Rattle.std.proofs.Common.{◌≡◌, take}
use Rattle.gate_migration.proofs.planning.copied.Given as goal

abbrev pub invariant-loop-job : goal.invariant-loop-job
invariant-loop-job l = l.copies.items ≡ take l.job-index l.jobs

use Rattle.std.proofs.Common.{◌≡◌, map, take}
use Rattle.toml.specs.View.{view}
use Rattle.gate_config.specs.Document.{said_job}
use Rattle.gate_config.proofs.build.jobs.Given as goal

abbrev pub invariant-loop-value : goal.invariant-loop-value
invariant-loop-value l = l.jobs.items ≡ map (λ v. said_job (view v)) (take l.value-index l.values)

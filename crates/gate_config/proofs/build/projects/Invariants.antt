use Rattle.std.proofs.Common.{◌≡◌, map, take}
use Rattle.toml.specs.View.{view}
use Rattle.gate_config.specs.Document.{said_project}
use Rattle.gate_config.proofs.build.projects.Given as goal

abbrev pub invariant-loop-value : goal.invariant-loop-value
invariant-loop-value l = l.projects.items ≡ map (λ v. said_project (view v)) (take l.value-index l.values)

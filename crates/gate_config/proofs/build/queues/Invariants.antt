use Rattle.std.proofs.Common.{◌≡◌, map, take}
use Rattle.toml.specs.View.{view}
use Rattle.gate_config.specs.Document.{said_queue}
use Rattle.gate_config.proofs.build.queues.Given as goal

abbrev pub invariant-loop-value : goal.invariant-loop-value
invariant-loop-value l = l.queues.items ≡ map (λ v. said_queue (view v)) (take l.value-index l.values)

use Rattle.std.proofs.Common.{ℕ, ◌+◌, ◌<◌, map, get_or}
use Rattle.gate_types.specs.declared.records.Build.{Build}
use Rattle.part_tests.proofs.queues.rising.builds_rise.Given as goal

abbrev pub invariant-loop-index : goal.invariant-loop-index
invariant-loop-index l = (k : ℕ) → k + 1 < l.index → get_or (map (λ (x : Build). x.number) l.builds) k 0 < get_or (map (λ (x : Build). x.number) l.builds) (k + 1) 0

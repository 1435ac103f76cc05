use Rattle.std.proofs.Common.{ℕ, ◌+◌, ◌<◌, map, get_or}
use Rattle.gate_types.specs.declared.records.Item.{Item}
use Rattle.part_tests.proofs.queues.rising.items_rise.Given as goal

abbrev pub invariant-loop-index : goal.invariant-loop-index
invariant-loop-index l = (k : ℕ) → k + 1 < l.index → get_or (map (λ (x : Item). x.serial) l.items) k 0 < get_or (map (λ (x : Item). x.serial) l.items) (k + 1) 0

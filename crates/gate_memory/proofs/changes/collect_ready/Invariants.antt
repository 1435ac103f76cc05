use Rattle.std.proofs.Common.{◌≡◌, take}
use Rattle.std.specs.List.{filter_map}
use Rattle.gate_types.specs.Keys.{number_of_change}
use Rattle.gate_memory.specs.Changes.{in_order, ready_by}
use Rattle.gate_memory.proofs.changes.collect_ready.Given as goal

abbrev pub invariant-loop-pair : goal.invariant-loop-pair
invariant-loop-pair l = l.found ≡ filter_map (ready_by (in_order number_of_change l.rows)) (take l.pair-index l.pairs)

use Rattle.std.proofs.Common.{◌≡◌, take}
use Rattle.std.specs.List.{filter_map}
use Rattle.gate_types.specs.Keys.{number_of_change}
use Rattle.gate_memory.specs.Changes.{in_order}
use Rattle.gate_memory.specs.TableReads.{needing_by}
use Rattle.gate_memory.proofs.changes.collect_needing.Given as goal

abbrev pub invariant-loop-pair : goal.invariant-loop-pair
invariant-loop-pair l = l.found ≡ filter_map (needing_by (in_order number_of_change l.rows) l.change) (take l.pair-index l.pairs)

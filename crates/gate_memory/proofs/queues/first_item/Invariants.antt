use Rattle.std.proofs.Common.{◌≡◌, take, []}
use Rattle.std.specs.List.{filter_map}
use Rattle.gate_types.specs.Keys.{serial_of_item}
use Rattle.gate_memory.specs.Sorted.{passing_at}
use Rattle.gate_memory.specs.Queues.{is_item_of}
use Rattle.gate_memory.proofs.queues.first_item.Given as goal

abbrev pub invariant-loop-entry : goal.invariant-loop-entry
invariant-loop-entry l = filter_map (λ p. passing_at serial_of_item (is_item_of l.fn.change) l.items p.second) (take l.entry-index l.entries) ≡ []

-- What is read of the queue of a name.
use Rattle.std.specs.Prelude.{List, [], Option, option_map}
use Rattle.std.specs.Option.{option_map_or}
use Rattle.gate_types.specs.declared.records.Item.{Item}
use Rattle.gate_memory.specs.Queues.{rows_of_table}
use Rattle.gate_memory.specs.declared.queues.QueueTable.{QueueTable}

-- its items, none where there is no such queue
abbrev pub items_found : Option QueueTable → List Item
items_found table = option_map_or (λ q. q.items) (option_map rows_of_table table) []

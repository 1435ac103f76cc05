use Rattle.std.proofs.Common.{◌≡◌, map, take}
use Rattle.std.specs.List.{AllByRecursion}
use Rattle.gate_memory.specs.Queues as queue
use Rattle.gate_types.specs.AdoptedTables.{empty_rows}
use Rattle.gate_book.proofs.tables.empty_queues.Given as goal

abbrev pub invariant-loop-setting : goal.invariant-loop-setting
invariant-loop-setting l = record {
  rows : map queue.rows_of_table l.queues.items ≡ map empty_rows (take l.setting-index l.settings);
  kept : AllByRecursion queue.IsKeptQueueTable l.queues.items;
}

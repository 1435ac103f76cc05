use Rattle.std.proofs.Common.{◌≡◌, map}
use Rattle.std.specs.List.{AllByRecursion}
use Rattle.gate_memory.specs.Queues as queue
use Rattle.gate_book.proofs.AdoptLemmas.{AreLeft, rows_so_far}
use Rattle.gate_book.proofs.adopting.adopt_queues.Given as goal

abbrev pub invariant-loop-index : goal.invariant-loop-index
invariant-loop-index l =
    let told = map queue.rows_of_table l.fn.queues.items in
    record {
      rows : map queue.rows_of_table l.new_queues.items ≡ rows_so_far l.held told l.index l.settings;
      left : AreLeft told (map queue.rows_of_table l.queues.items) l.index l.settings;
      kept : AllByRecursion queue.IsKeptQueueTable l.queues.items;
      new_kept : AllByRecursion queue.IsKeptQueueTable l.new_queues.items;
    }

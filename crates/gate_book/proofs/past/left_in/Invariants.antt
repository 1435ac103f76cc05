use Rattle.std.proofs.Common.{◌≡◌, map, drop}
use Rattle.std.specs.Prelude.{◌==◌, find}
use Rattle.gate_memory.specs.Queues as queue
use Rattle.gate_book.specs.Past.{all_left}
use Rattle.gate_book.proofs.past.left_in.Given as goal

abbrev pub invariant-loop-queue : goal.invariant-loop-queue
invariant-loop-queue l =
    find (λ i. i.report.serial == l.fn.serial) (all_left (map queue.rows_of_table l.queues))
    ≡ find (λ i. i.report.serial == l.fn.serial) (all_left (map queue.rows_of_table (drop l.queue-index l.queues)))

use Rattle.std.proofs.Common.{◌≡◌, map, take}
use Rattle.gate_sql.proofs.book.names_of.Given as goal

abbrev pub invariant-loop-queue : goal.invariant-loop-queue
invariant-loop-queue l = record {
  copied : l.names.items ≡ map (λ q. q.name) (take l.queue-index l.queues);
}

use Rattle.std.proofs.Common.{◌≡◌, map, drop}
use Rattle.std.specs.Prelude.{◌==◌, find}
use Rattle.gate_memory.specs.HeldQueues.{live_queued}
use Rattle.gate_memory.proofs.holding.queued_in.Given as goal

abbrev pub invariant-loop-queue : goal.invariant-loop-queue
invariant-loop-queue g l =
    find (λ k. k.item.change == l.fn.change) (live_queued (map g.Q.HoldsQueue.holds l.queues))
    ≡ find (λ k. k.item.change == l.fn.change) (live_queued (map g.Q.HoldsQueue.holds (drop l.queue-index l.queues)))

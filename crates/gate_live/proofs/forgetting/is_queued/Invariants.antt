use Rattle.std.proofs.Common.{◌≡◌, map, drop}
use Rattle.std.specs.Prelude.{◌==◌, find}
use Rattle.gate_memory.specs.HeldQueues.{live_queued}
use Rattle.gate_live.specs.Held.{queue_of}
use Rattle.gate_live.proofs.forgetting.is_queued.Given as goal

abbrev pub invariant-loop-queue : goal.invariant-loop-queue
invariant-loop-queue l =
    find (λ k. k.item.change == l.fn.change) (live_queued (map queue_of l.queues))
    ≡ find (λ k. k.item.change == l.fn.change) (live_queued (map queue_of (drop l.queue-index l.queues)))

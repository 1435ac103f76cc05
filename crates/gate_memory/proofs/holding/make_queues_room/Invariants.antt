use Rattle.gate_memory.proofs.LoopLemmas.{Done}
use Rattle.gate_memory.proofs.HoldingLemmas.{Roomy}
use Rattle.gate_memory.proofs.holding.make_queues_room.Given as goal

abbrev pub invariant-loop-queue : goal.invariant-loop-queue
invariant-loop-queue g l = Done (Roomy g.Q.HoldsQueue.holds g.Q.HoldsQueue.IsKept g.Q.HoldsQueue.HasRoom l.fn.n) l.queue-index l.fn.queues.items l.queue-items

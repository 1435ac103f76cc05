use Rattle.gate_memory.proofs.LoopLemmas.{Done}
use Rattle.gate_memory.proofs.HoldingLemmas.{Edited}
use Rattle.gate_memory.proofs.holding.apply_to_queues.Given as goal

abbrev pub invariant-loop-queue : goal.invariant-loop-queue
invariant-loop-queue g l = Done (Edited g.Q.HoldsQueue.holds (g.Q.HoldsQueue.edited l.edit) g.Q.HoldsQueue.IsKept g.Q.HoldsQueue.HasRoom) l.queue-index l.fn.queues.items l.queue-items

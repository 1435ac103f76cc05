use Rattle.gate_queue.proofs.WholeQueue.WholeState as law
use Rattle.gate_queue.proofs.whole_queue.laws.each_queue_is_settled_by_itself.Goals as goal

pub returns : goal.returns
returns c = law.each_queue_is_settled_by_itself

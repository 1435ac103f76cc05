use Rattle.std.proofs.Common.{arith, take}
use Rattle.gate_queue.proofs.WholeQueue.SharedLemmas.{below_higher}
use Rattle.gate_queue.proofs.whole_queue.shared.shared_with.Goals as goal

pub shared_from-requires : goal.shared_from-requires
shared_from-requires c = below_higher c.args.below _ (take c.args.known c.args.landings.now) (omega arith) c.requires

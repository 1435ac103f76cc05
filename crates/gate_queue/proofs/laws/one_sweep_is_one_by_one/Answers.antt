use Rattle.gate_queue.proofs.OneByOne as law
use Rattle.gate_queue.proofs.laws.one_sweep_is_one_by_one.Goals as goal

pub returns : goal.returns
returns c = law.one_sweep_is_one_by_one

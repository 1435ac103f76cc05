use Rattle.gate_queue.proofs.LawLemmas as law
use Rattle.gate_queue.proofs.laws.slots_tell_failing.Goals as goal

pub returns : goal.returns
returns c = law.slots_tell_failing

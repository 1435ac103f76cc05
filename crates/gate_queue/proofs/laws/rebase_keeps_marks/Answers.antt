use Rattle.gate_queue.proofs.LawLemmas as law
use Rattle.gate_queue.proofs.laws.rebase_keeps_marks.Goals as goal

pub returns : goal.returns
returns c = law.rebase_keeps_marks

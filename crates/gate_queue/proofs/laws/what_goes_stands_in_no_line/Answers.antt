use Rattle.gate_queue.proofs.LawLemmas as law
use Rattle.gate_queue.proofs.laws.what_goes_stands_in_no_line.Goals as goal

pub returns : goal.returns
returns c = law.what_goes_stands_in_no_line

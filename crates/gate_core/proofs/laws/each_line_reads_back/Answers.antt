use Rattle.gate_core.proofs.LinesReadBack as law
use Rattle.gate_core.proofs.laws.each_line_reads_back.Goals as goal

pub returns : goal.returns
returns c = law.each_line_reads_back

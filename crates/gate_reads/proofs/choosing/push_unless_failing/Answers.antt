use Rattle.std.proofs.Common.{rules}
use Rattle.gate_reads.proofs.choosing.push_unless_failing.Goals as goal

pub returns : goal.returns
returns c = search rules

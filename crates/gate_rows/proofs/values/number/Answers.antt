use Rattle.std.proofs.Common.{rules}
use Rattle.gate_rows.proofs.values.number.Goals as goal

pub returns : goal.returns
returns c = search rules

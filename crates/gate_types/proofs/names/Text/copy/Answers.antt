use Rattle.std.proofs.Common.{rules}
use Rattle.gate_types.proofs.names.Text.copy.Goals as goal

pub returns : goal.returns
returns c = search rules

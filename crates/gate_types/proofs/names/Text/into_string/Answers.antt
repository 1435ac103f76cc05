use Rattle.std.proofs.Common.{rules}
use Rattle.gate_types.proofs.names.Text.into_string.Goals as goal

pub returns : goal.returns
returns c = search rules

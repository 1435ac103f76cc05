use Rattle.std.proofs.Common.{rules}
use Rattle.gate_types.proofs.names.Text.new.Goals as goal

pub returns : goal.returns
returns c = search rules

use Rattle.std.proofs.Common.{rules}
use Rattle.gate_types.proofs.sequence.Sequence.into_vec.Goals as goal

pub returns : goal.returns
returns g c = search rules

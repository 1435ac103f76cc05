use Rattle.std.proofs.Common.{rules}
use Rattle.gate_walk.proofs.walk.Walk.gone.Goals as goal

pub returns : goal.returns
returns c = search rules

use Rattle.std.proofs.Common.{rules}
use Rattle.gate_walk.proofs.walk.Walk.touched.Goals as goal

pub returns : goal.returns
returns c = search rules

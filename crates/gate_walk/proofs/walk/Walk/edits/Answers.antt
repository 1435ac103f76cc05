use Rattle.std.proofs.Common.{rules}
use Rattle.gate_walk.proofs.walk.Walk.edits.Goals as goal

pub returns : goal.returns
returns c = search rules

use Rattle.std.proofs.Common.{rules}
use Rattle.gate_walk.proofs.walk.Walk.next.Goals as goal

pub returns-then-is_empty : goal.returns-then-is_empty
returns-then-is_empty c = search rules

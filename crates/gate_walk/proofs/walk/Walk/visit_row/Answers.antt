use Rattle.std.proofs.Common.{rules}
use Rattle.gate_walk.proofs.walk.Walk.visit_row.Goals as goal

pub returns-clause-visited : goal.returns-clause-visited
returns-clause-visited c = search rules

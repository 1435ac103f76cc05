use Rattle.std.proofs.Common.{rules}
use Rattle.gate_wire.proofs.members.whole_of.Goals as goal

pub returns-in-Some : goal.returns-in-Some
returns-in-Some c = search rules

use Rattle.std.proofs.Common.{rules}
use Rattle.gate_wire.proofs.door.Door.opens.Goals as goal

pub returns-in-Forge : goal.returns-in-Forge
returns-in-Forge c = search rules

pub returns-in-Worker : goal.returns-in-Worker
returns-in-Worker c = search rules

use Rattle.std.proofs.Common.{rules}
use Rattle.gate_types.proofs.canonical.canonical.Goals as goal

pub returns-in-Closed : goal.returns-in-Closed
returns-in-Closed c = search rules

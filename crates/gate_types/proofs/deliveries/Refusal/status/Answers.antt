use Rattle.std.proofs.Common.{rules}
use Rattle.gate_types.proofs.deliveries.Refusal.status.Goals as goal

pub returns-in-Unavailable : goal.returns-in-Unavailable
returns-in-Unavailable c = search rules

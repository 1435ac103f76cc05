use Rattle.std.proofs.Common.{rules}
use Rattle.gate_queue_rules.proofs.outcomes.is_failed.Goals as goal

pub returns-in-Failure : goal.returns-in-Failure
returns-in-Failure c = search rules

use Rattle.std.proofs.Common.{rules}
use Rattle.gate_queue_rules.proofs.outcomes.is_finished.Goals as goal

pub returns-in_default : goal.returns-in_default
returns-in_default c = search rules

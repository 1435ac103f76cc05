use Rattle.std.proofs.Common.{rules}
use Rattle.gate_queue_rules.proofs.verdict.verdict_of.Goals as goal

pub returns-then-not-met : goal.returns-then-not-met
returns-then-not-met c = search rules

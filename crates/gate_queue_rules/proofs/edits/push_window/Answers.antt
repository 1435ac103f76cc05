use Rattle.std.proofs.Common.{rules}
use Rattle.gate_queue_rules.proofs.edits.push_window.Goals as goal

pub returns-else-old-new : goal.returns-else-old-new
returns-else-old-new c = search rules

use Rattle.std.proofs.Common.{rules}
use Rattle.gate_wire.proofs.replies.write_reply.Goals as goal

pub returns-in-Removed : goal.returns-in-Removed
returns-in-Removed c = search rules

use Rattle.std.proofs.Common.{rules}
use Rattle.gate_wire.proofs.replies.build_front.Goals as goal

pub returns : goal.returns
returns c = search rules

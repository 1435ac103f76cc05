use Rattle.gate_core.proofs.ReplyLemmas.{calls_answered}
use Rattle.gate_core.proofs.replaying.calls_are_answered.Goals as goal

pub returns : goal.returns
returns c = calls_answered

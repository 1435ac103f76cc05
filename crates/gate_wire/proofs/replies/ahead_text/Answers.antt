use Rattle.gate_wire.proofs.ReplyLemmas.{joined_turn, array_ends}
use Rattle.gate_wire.proofs.replies.ahead_text.Goals as goal

pub loop-place-preserved : goal.loop-place-preserved
loop-place-preserved c = joined_turn _ _ _ _ _ _ c.loop-place-test.true c.loop-place.invariant c.separator.ensures c.index-ahead-place.is c.in_ok-push_entry.ensures

pub returns : goal.returns
returns c = array_ends _ _ _ _ c.loop-place-test.false c.loop-place.invariant c.in_ok-push_str.ensures.bytes

-- The delivery examples, computed.
use Rattle.std.proofs.Common.{refl}
use Rattle.std.specs.Fmt.{digits}
use Rattle.json.specs.Print.{escape_byte}
use Rattle.gate_laws.specs.DeliveryExamples.{ARepeatGetsTheKeptReply, ASpentIdServesNothingElse, ARefusalSpendsNoId}
use Rattle.gate_laws.specs.DeliveryExamples.{AnUnavailableCallMayComeAgain, ARevisionSupersedes}

pub a_repeat_gets_the_kept_reply : ARepeatGetsTheKeptReply
unfolding digits escape_byte
a_repeat_gets_the_kept_reply = record { replies = refl; status = refl }

pub a_spent_id_serves_nothing_else : ASpentIdServesNothingElse
unfolding digits escape_byte
a_spent_id_serves_nothing_else = refl

pub a_refusal_spends_no_id : ARefusalSpendsNoId
unfolding digits escape_byte
a_refusal_spends_no_id = refl

pub an_unavailable_call_may_come_again : AnUnavailableCallMayComeAgain
unfolding digits escape_byte
an_unavailable_call_may_come_again = refl

pub a_revision_supersedes : ARevisionSupersedes
unfolding digits escape_byte
a_revision_supersedes = record { replies = refl; status = refl; approved_anew = refl }

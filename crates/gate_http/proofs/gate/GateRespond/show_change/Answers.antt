use Rattle.std.proofs.Common.{refl, Some, None}
use Rattle.std.specs.Prelude.{string_bytes}
use Rattle.gate_types.specs.declared.deliveries.Answer.TheVariants.{Refused}
use Rattle.gate_types.specs.declared.deliveries.Refusal.TheVariants as refusal
use Rattle.gate_types.specs.State.{known_change}
use Rattle.gate_archive.specs.ChangeText.{change_text}
use Rattle.gate_core.specs.Holding.{settings_of}
use Rattle.gate_http.specs.declared.respond.AnswerIfAny.TheVariants as told
use Rattle.gate_http.specs.Answer.{change_number, change_said, answer_known}
use Rattle.gate_http.specs.Asked.{change}
use Rattle.gate_http.proofs.AskedLemmas.{known_is, named_is}
use Rattle.gate_http.proofs.ServingLemmas.{responds_kept, responds_unmoved}
use Rattle.gate_http.proofs.gate.GateRespond.show_change.Goals as goal

pub returns-in-Some : goal.returns-in-Some
returns-in-Some g c =
    let config = settings_of c.args.self.now in
    responds_kept g.B.Book.IsTrusted g.B.Book.Holds g.B.Book.LeavesOneOf _ _ (change c.args.number.now)
    (told.Answer c.answer_with.result) (λ u. refl) c.change.ensures.settings c.change.ensures.kept
    (λ t x held lawful. named_is (change_said (record { settings = config; content = x }))
    (λ o. told.Answer (answer_known o)) (told.Answer c.answer_with.result)
    (Some c.in-Some.number) (change_number c.args.number.now) c.in-Some.ensures
    (known_is (λ s. string_bytes s) (change_text config x.state) c.change.result c.answer_with.result
    (known_change x.state c.in-Some.number) c.answer_with.ensures (c.change.ensures.answered t x held.book lawful)))

pub returns-in-None : goal.returns-in-None
returns-in-None g c =
    responds_unmoved g.B.Book.IsTrusted g.B.Book.Holds g.B.Book.LeavesOneOf _ (change c.args.number.now)
    (told.Answer (Refused refusal.UnknownChange)) (λ u. refl)
    (λ h. named_is (change_said h) (λ o. told.Answer (answer_known o)) (told.Answer (Refused refusal.UnknownChange))
    None (change_number c.args.number.now) c.in-None.ensures refl)

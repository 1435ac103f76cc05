use Rattle.std.proofs.Common.{refl, Some, None}
use Rattle.std.specs.Prelude.{string_bytes}
use Rattle.gate_types.specs.declared.deliveries.Answer.TheVariants.{Refused}
use Rattle.gate_types.specs.declared.deliveries.Refusal.TheVariants as refusal
use Rattle.gate_types.specs.Step.{build_of}
use Rattle.gate_http.specs.declared.respond.AnswerIfAny.TheVariants as told
use Rattle.gate_http.specs.Answer.{build_number, answer_found}
use Rattle.gate_http.specs.Asked.{build}
use Rattle.gate_http.proofs.AskedLemmas.{found_is, named_is}
use Rattle.gate_http.proofs.ServingLemmas.{responds_kept, responds_unmoved}
use Rattle.gate_http.proofs.gate.GateRespond.show_build.Goals as goal

pub returns-in-Some : goal.returns-in-Some
returns-in-Some g c =
    responds_kept g.B.Book.IsTrusted g.B.Book.Holds g.B.Book.LeavesOneOf _ _ (build c.args.number.now)
    (told.Answer c.answer_with.result) (λ u. refl) c.build.ensures.settings c.build.ensures.kept
    (λ t x held lawful. named_is (build_of x.state) (λ o. told.Answer (answer_found o))
    (told.Answer c.answer_with.result)
    (Some c.in-Some.number) (build_number c.args.number.now) c.in-Some.ensures
    (found_is (λ s. string_bytes s) c.build.result c.answer_with.result (build_of x.state c.in-Some.number)
    c.answer_with.ensures (c.build.ensures.answered t x held.book lawful)))

pub returns-in-None : goal.returns-in-None
returns-in-None g c =
    responds_unmoved g.B.Book.IsTrusted g.B.Book.Holds g.B.Book.LeavesOneOf _ (build c.args.number.now)
    (told.Answer (Refused refusal.UnknownBuild)) (λ u. refl)
    (λ h. named_is (build_of h.content.state) (λ o. told.Answer (answer_found o))
    (told.Answer (Refused refusal.UnknownBuild))
    None (build_number c.args.number.now) c.in-None.ensures refl)

use Rattle.std.proofs.Common.{refl}
use Rattle.gate_types.specs.declared.deliveries.Answer.TheVariants as answer
use Rattle.gate_core.proofs.ReplyLemmas.{goes_nowhere, goes_told, told_refusal}
use Rattle.gate_core.proofs.respond.GateAnswerLines.respond.Goals as goal

pub returns-in-Said : goal.returns-in-Said
returns-in-Said g c =
    let told = c.deliver.ensures in
    goes_told _ _ g.B.Book.LeavesOneOf _ _ _ _ _ (answer.Said c.in-Said.text) _ c.in-Said.ensures.settings c.in-Said.ensures.trusted
    c.requires c.in-Ok.ensures c.into_string.ensures c.in-Said.ensures.answered

pub returns-in-Refused : goal.returns-in-Refused
returns-in-Refused g c =
    goes_told _ _ g.B.Book.LeavesOneOf _ _ _ _ _ (answer.Refused c.in-Refused.refusal) _ c.in-Refused.ensures.settings c.in-Refused.ensures.trusted
    c.requires c.in-Ok.ensures c.text.ensures c.in-Refused.ensures.answered

pub returns-in-Err : goal.returns-in-Err
returns-in-Err g c = rw c.text-in-Err.ensures
    (goes_nowhere _ _ _ _ _ refl (λ h. told_refusal g.B.Book.LeavesOneOf g.met.B.Book.leaves_more c.args.self.now h _ c.in-Err.refusal c.requires c.in-Err.ensures))

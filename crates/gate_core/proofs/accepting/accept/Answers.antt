use Rattle.std.proofs.Common.{◌<◌, ap, sym, subst, ◌∙◌, length}
use Rattle.gate_types.specs.declared.deliveries.Answer.TheVariants as answer
use Rattle.gate_types.specs.Tables.{Leads}
use Rattle.gate_core.specs.Ruled.{kept_on}
use Rattle.gate_core.proofs.Results.{on_err}
use Rattle.gate_core.proofs.KeptReply.{keep_leads, some_edits}
use Rattle.gate_core.proofs.accepting.accept.Goals as goal

pub returns-in_err-apply-clause-err : goal.returns-in_err-apply-clause-err
returns-in_err-apply-clause-err g c trusted s x holds lawful u next leads =
    let text = c.in_ok-reply.ensures ∙ c.new-text.ensures ∙ c.in_ok-write_reply.ensures in
    let moved = keep_leads s x u c.args.id c.args.said c.in_ok-reply.reply c.args.reply.now c.args.edits.items text leads in
    let same = sym (c.deref.ensures.value ∙ c.in_ok-edits.ensures) in
    let y = kept_on x u c.args.id c.args.said c.args.reply.now in
    let all : Leads s x c.deref.result.now y = subst (λ es. Leads s x es y) same moved in
    on_err c.from_residual-in_err-apply.result (record {
      content = c.in_err-apply.ensures.unchanged trusted s x holds lawful;
      crash = (c.apply.ensures.applied trusted s x holds lawful y next all).crash;
    })

pub returns-clause-ok : goal.returns-clause-ok
returns-clause-ok g c trusted s x holds lawful u next leads =
    let text = c.in_ok-reply.ensures ∙ c.new-text.ensures ∙ c.in_ok-write_reply.ensures in
    let moved = keep_leads s x u c.args.id c.args.said c.in_ok-reply.reply c.args.reply.now c.args.edits.items text leads in
    let same = sym (c.deref.ensures.value ∙ c.in_ok-edits.ensures) in
    let y = kept_on x u c.args.id c.args.said c.args.reply.now in
    let all : Leads s x c.deref.result.now y = subst (λ es. Leads s x es y) same moved in
    let some : 0 < length c.deref.result.now = subst (λ es. 0 < length es) same (some_edits c.args.edits.items _) in
    let applied = c.in_ok-apply.ensures.applied trusted s x holds lawful y next all in
    record {
      said = ap answer.Said (c.new-text.ensures ∙ c.in_ok-write_reply.ensures);
      content = applied.ok;
      crash = applied.settled some;
    }

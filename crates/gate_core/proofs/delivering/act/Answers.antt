use Rattle.std.proofs.Common.{rules, ◌≡◌, true, false, refl, subst, sym, ap}
use Rattle.std.proofs.lemmas.Result.{on_err_weaker}
use Rattle.gate_types.specs.Settings.{are_sound}
use Rattle.gate_types.specs.Forms.{is_call_in_form}
use Rattle.gate_types.specs.Once.{is_unavailable}
use Rattle.gate_core.specs.Answered.{call}
use Rattle.gate_core.specs.Ruled.{IsRuled}
use Rattle.gate_core.specs.Recent.{IsTrueOf}
use Rattle.gate_core.proofs.NextContents.{kept_is_lawful, accepted_is_answered, failed_is_answered, next_stays}
use Rattle.gate_core.proofs.NextContents.{refused_is_answered}
use Rattle.gate_settling.proofs.KeptLemmas.{if_ok_so}
use Rattle.gate_core.proofs.delivering.act.Goals as goal

pub returns-in-Accepted-clause-ok : goal.returns-in-Accepted-clause-ok
returns-in-Accepted-clause-ok g c trusted x holds lawful none told =
    let s = c.args.config.now in
    let d = c.args.delivery.now in
    let k = call c.args.id d false in
    let before = c.accept.ensures.trusted trusted in
    let ruled = subst (IsRuled s x d) c.in-Accepted.is (c.in_ok-refusal.ensures.reads.found before x holds lawful) in
    let sound : are_sound s ≡ true = search rules in
    let formed : is_call_in_form k ≡ true = search rules in
    let next = c.next_content_is_lawful.ensures s x k sound c.settings_are_in_form.ensures formed lawful in
    let kept = kept_is_lawful s x c.args.id d _ _ _ none ruled.steps c.requires next in
    let there = c.in_ok-refusal.ensures.reads.kept.holds_on before _ x holds in
    if_ok_so c.accept.result
    (λ a h. accepted_is_answered s x c.args.id d _ _ _ a _ _ _ none ruled.steps c.requires next h)
    (c.accept.ensures.ok trusted s x there lawful ruled.after kept ruled.leads)

pub returns-in-Accepted-clause-err : goal.returns-in-Accepted-clause-err
returns-in-Accepted-clause-err g c trusted x holds lawful none =
    let s = c.args.config.now in
    let d = c.args.delivery.now in
    let k = call c.args.id d false in
    let before = c.accept.ensures.trusted trusted in
    let ruled = subst (IsRuled s x d) c.in-Accepted.is (c.in_ok-refusal.ensures.reads.found before x holds lawful) in
    let sound : are_sound s ≡ true = search rules in
    let formed : is_call_in_form k ≡ true = search rules in
    let next = c.next_content_is_lawful.ensures s x k sound c.settings_are_in_form.ensures formed lawful in
    let kept = kept_is_lawful s x c.args.id d _ _ _ none ruled.steps c.requires next in
    let only = c.in_ok-refusal.ensures.reads.kept in
    on_err_weaker c.accept.result
    (λ h. failed_is_answered s x c.args.id d _ _ _ _ _ _ none ruled.steps c.requires lawful (record {
      content = h.content;
      crash = λ ys l. h.crash ys (only.leaves_on before _ x holds ys l);
    }))
    (c.accept.ensures.err trusted s x (only.holds_on before _ x holds) lawful ruled.after kept ruled.leads)

pub returns-in-Accepted-clause-told : goal.returns-in-Accepted-clause-told
returns-in-Accepted-clause-told g c trusted x holds lawful none =
    let s = c.args.config.now in
    let d = c.args.delivery.now in
    let k = call c.args.id d false in
    let before = c.accept.ensures.trusted trusted in
    let ruled = subst (IsRuled s x d) c.in-Accepted.is (c.in_ok-refusal.ensures.reads.found before x holds lawful) in
    let sound : are_sound s ≡ true = search rules in
    let formed : is_call_in_form k ≡ true = search rules in
    let next = c.next_content_is_lawful.ensures s x k sound c.settings_are_in_form.ensures formed lawful in
    let kept = kept_is_lawful s x c.args.id d _ _ _ none ruled.steps c.requires next in
    let there = c.in_ok-refusal.ensures.reads.kept.holds_on before _ x holds in
    if_ok_so c.accept.result (λ a h. ap is_unavailable h.said)
    (c.accept.ensures.ok trusted s x there lawful ruled.after kept ruled.leads)

pub returns-then-refuses-clause-ok : goal.returns-then-refuses-clause-ok
returns-then-refuses-clause-ok g c trusted x holds lawful none told =
    let s = c.args.config.now in
    refused_is_answered s x c.args.id c.args.delivery.now _ _ _ none (c.if-refuses.ensures refl s x told) lawful holds

pub returns-then-refuses-clause-recent : goal.returns-then-refuses-clause-recent
returns-then-refuses-clause-recent g c trusted x holds lawful none told =
    let s = c.args.config.now in
    subst (IsTrueOf c.args.recent.now s) (sym (next_stays s x c.args.id c.args.delivery.now _ none (c.if-refuses.ensures refl s x told))) told

pub returns-in-Refused-clause-recent : goal.returns-in-Refused-clause-recent
returns-in-Refused-clause-recent g c trusted x holds lawful none told =
    let s = c.args.config.now in
    let ruled = subst (IsRuled s x c.args.delivery.now) c.in-Refused.is (c.in_ok-refusal.ensures.reads.found trusted x holds lawful) in
    subst (IsTrueOf c.keep_refusal.new.self s) (sym (next_stays s x c.args.id c.args.delivery.now _ none ruled.0))
    (c.keep_refusal.ensures s x ruled.0 told)

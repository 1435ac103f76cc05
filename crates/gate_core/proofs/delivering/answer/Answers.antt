use Rattle.std.proofs.Common.{◌≡◌, None, sym, ◌∙◌}
use Rattle.std.proofs.lemmas.Result.{on_err_weaker}
use Rattle.gate_types.specs.Once.{kept_for}
use Rattle.gate_core.proofs.NextContents.{answered_from}
use Rattle.gate_settling.proofs.KeptLemmas.{if_ok_so}
use Rattle.gate_core.proofs.delivering.answer.Goals as goal

pub returns-in-None-clause-ok : goal.returns-in-None-clause-ok
returns-in-None-clause-ok g c trusted x holds lawful told =
    let before = c.act.ensures.trusted trusted in
    let kept = c.in_ok-kept.ensures.kept in
    let none : kept_for c.args.id x.kept ≡ None = sym (c.in_ok-kept.ensures.found before _ x holds lawful) ∙ c.in-None.is in
    if_ok_so c.act.result (λ a h. answered_from _ _ _ _ _ _ _ _ (kept.leaves_on before _ x holds) h)
    (c.act.ensures.ok trusted x (kept.holds_on before _ x holds) lawful none told)

pub returns-in-None-clause-err : goal.returns-in-None-clause-err
returns-in-None-clause-err g c trusted x holds lawful =
    let before = c.act.ensures.trusted trusted in
    let kept = c.in_ok-kept.ensures.kept in
    let none : kept_for c.args.id x.kept ≡ None = sym (c.in_ok-kept.ensures.found before _ x holds lawful) ∙ c.in-None.is in
    on_err_weaker c.act.result (λ h. answered_from _ _ _ _ _ _ _ _ (kept.leaves_on before _ x holds) h)
    (c.act.ensures.err trusted x (kept.holds_on before _ x holds) lawful none)

pub returns-in-None-clause-recent : goal.returns-in-None-clause-recent
returns-in-None-clause-recent g c trusted x holds lawful told =
    let before = c.act.ensures.trusted trusted in
    let none : kept_for c.args.id x.kept ≡ None = sym (c.in_ok-kept.ensures.found before _ x holds lawful) ∙ c.in-None.is in
    c.act.ensures.recent trusted x (c.in_ok-kept.ensures.kept.holds_on before _ x holds) lawful none told

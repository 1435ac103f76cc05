use Rattle.std.proofs.Common.{sym, ◌∙◌, true≢false}
use Rattle.std.proofs.lemmas.Result.{err_from_is_err_and}
use Rattle.std.proofs.lemmas.Slice.Eq.{bytes_eq-Decides}
use Rattle.gate_kept_settings.proofs.ToldLemmas.{says_settings, told_is, told_unless, told_text}
use Rattle.gate_kept_settings.proofs.read_text.Goals as goal

pub returns-in_err-config-clause-told : goal.returns-in_err-config-clause-told
returns-in_err-config-clause-told c = λ s h.
    let p = err_from_is_err_and c.from_residual.result c.from_residual.ensures.1 in
    rw p.1 (p.2 ∙ told_unless c.args.text.now s c.in_err-config.field-0.0 h c.in_err-config.ensures)

pub returns-then-eq-clause-exact : goal.returns-then-eq-clause-exact
returns-then-eq-clause-exact c =
    let same = (bytes_eq-Decides c.as_bytes.result.now c.args.text.now).0 (sym c.eq.ensures ∙ c.if-eq.true) in
    says_settings c.args.text.now c.in_ok-config.config c.in_ok-config.ensures (sym same ∙ c.as_bytes.ensures.value ∙ c.in_ok-written.ensures)

pub returns-then-eq-clause-told : goal.returns-then-eq-clause-told
returns-then-eq-clause-told c = λ s h. told_is c.args.text.now s c.in_ok-config.config h c.in_ok-config.ensures

pub returns-else-eq-clause-told : goal.returns-else-eq-clause-told
returns-else-eq-clause-told c = λ s h.
    let same = told_text c.args.text.now c.as_bytes.result.now s c.in_ok-config.config h c.in_ok-config.ensures (c.as_bytes.ensures.value ∙ c.in_ok-written.ensures) in
    absurd (true≢false (sym same ∙ sym c.eq.ensures ∙ c.if-eq.false))

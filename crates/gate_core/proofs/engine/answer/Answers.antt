use Rattle.std.proofs.Common.{refl, inr}
use Rattle.std.proofs.lemmas.Result.{err_from_is_err_and}
use Rattle.gate_core.specs.Limit.{too_large}
use Rattle.gate_core.proofs.engine.answer.Goals as goal

pub returns-in_ok-write_line-in-None-clause-ok : goal.returns-in_ok-write_line-in-None-clause-ok
returns-in_ok-write_line-in-None-clause-ok g c = λ begun h. (too_large, inr (c.in-None.ensures.shows begun h, refl, refl), c.in_ok-write_line-in-None.ensures.ok)

pub returns-in_err-write_line-in-None-clause-err : goal.returns-in_err-write_line-in-None-clause-err
returns-in_err-write_line-in-None-clause-err g c =
    let p = err_from_is_err_and c.from_residual.result c.from_residual.ensures.1 in
    rw p.1 (λ begun h. (too_large, inr (c.in-None.ensures.shows begun h, refl, refl), c.in_err-write_line-in-None.ensures.err))

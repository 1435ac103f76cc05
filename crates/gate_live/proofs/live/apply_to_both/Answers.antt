use Rattle.std.proofs.lemmas.Result.{err_from_is_err_and}
use Rattle.gate_live.proofs.live.apply_to_both.Goals as goal

pub returns-in_err-apply-clause-applied : goal.returns-in_err-apply-clause-applied
returns-in_err-apply-clause-applied g c trusted k x holds lawful y after leads =
    let p = err_from_is_err_and c.from_residual-in_err-apply.result c.from_residual-in_err-apply.ensures.1 in
    rw (p.1, p.2) (c.in_err-apply.ensures.applied trusted k x holds lawful y after leads)

pub returns-in_err-apply-clause-unchanged : goal.returns-in_err-apply-clause-unchanged
returns-in_err-apply-clause-unchanged g c trusted k x holds lawful =
    let p = err_from_is_err_and c.from_residual-in_err-apply.result c.from_residual-in_err-apply.ensures.1 in
    rw (p.1, p.2) (c.in_err-apply.ensures.unchanged trusted k x holds lawful)

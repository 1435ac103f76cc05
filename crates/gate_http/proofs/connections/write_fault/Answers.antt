use Rattle.std.proofs.Common.{[], ◌∷◌, ◌++◌}
use Rattle.std.specs.Prelude.{codes}
use Rattle.std.proofs.lemmas.Result.{err_from_is_err_and}
use Rattle.gate_types.proofs.TapLemmas.{writes_later, writes_sooner}
use Rattle.gate_http.proofs.connections.write_fault.Goals as goal

pub returns-in_err-write_all-clause-err : goal.returns-in_err-write_all-clause-err
returns-in_err-write_all-clause-err g c =
    let p = err_from_is_err_and c.from_residual.result c.from_residual.ensures.1 in
    rw p.1 (writes_sooner _ _ (codes "gated: ") (c.args.text.now ++ 10 ∷ [])
    c.in_err-write_all.ensures.err)

pub returns-in_err-write_line-clause-err : goal.returns-in_err-write_line-clause-err
returns-in_err-write_line-clause-err g c =
    let p = err_from_is_err_and c.from_residual-in_err-write_line.result c.from_residual-in_err-write_line.ensures.1 in
    rw p.1 (writes_later _ _ _ (codes "gated: ") (c.args.text.now ++ 10 ∷ [])
    c.in_ok-write_all.ensures.ok c.in_err-write_line.ensures.err)

use Rattle.std.proofs.Common.{[], ◌∷◌}
use Rattle.std.proofs.lemmas.Result.{err_from_is_err_and}
use Rattle.gate_types.proofs.TapLemmas.{writes_later}
use Rattle.gate_types.proofs.tap.Tap.write_line.Goals as goal

pub returns-in_err-write_all-2-clause-err : goal.returns-in_err-write_all-2-clause-err
returns-in_err-write_all-2-clause-err g c =
    let p = err_from_is_err_and c.from_residual-in_err-write_all-2.result c.from_residual-in_err-write_all-2.ensures.1 in
    rw p.1 (writes_later _ _ _ c.args.text.now (10 ∷ []) (rw c.as_bytes.ensures.value at c.in_ok-write_all.ensures.ok) c.in_err-write_all-2.ensures.err)

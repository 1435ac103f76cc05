use Rattle.std.proofs.lemmas.Result.{err_from_is_err_and}
use Rattle.gate_types.proofs.TapLemmas.{writes_later}
use Rattle.gate_book.proofs.feeding.write_beginning.Goals as goal

pub returns-in_err-write_all-2-clause-text : goal.returns-in_err-write_all-2-clause-text
returns-in_err-write_all-2-clause-text g c =
    let p = err_from_is_err_and c.from_residual-in_err-write_all-2.result c.from_residual-in_err-write_all-2.ensures.1 in
    rw p.1 (writes_later _ _ _ c.args.front.now c.args.text.now c.in_ok-write_all.ensures.ok
    (rw c.as_bytes.ensures.value at c.in_err-write_all-2.ensures.err))

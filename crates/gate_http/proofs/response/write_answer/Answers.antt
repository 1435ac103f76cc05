use Rattle.std.proofs.lemmas.Result.{err_from_is_err_and}
use Rattle.gate_http.specs.Response.{head_text, head_in}
use Rattle.gate_types.proofs.TapLemmas.{writes_later}
use Rattle.gate_http.proofs.response.write_answer.Goals as goal

pub returns-in_err-write_all-2-clause-err : goal.returns-in_err-write_all-2-clause-err
returns-in_err-write_all-2-clause-err g c =
    let p =
    err_from_is_err_and c.from_residual-in_err-write_all-2.result c.from_residual-in_err-write_all-2.ensures.1 in
    rw p.1 (writes_later _ _ _
    (head_in c.args.form (head_text c.args.status c.args.kind.now c.args.len c.args.allow.now))
    c.args.content.now (rw (c.as_slice.ensures.value, c.put_head_in.ensures) at c.in_ok-write_all.ensures.ok)
    (rw c.as_bytes.ensures.value at c.in_err-write_all-2.ensures.err))

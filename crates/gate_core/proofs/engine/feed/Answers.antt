use Rattle.std.proofs.Common.{[], arith, refl, eq-eqb, rules}
use Rattle.std.proofs.lemmas.Result.{err_from_is_err_and}
use Rattle.gate_core.proofs.RunLemmas.{fed_nil, so_far_byte, so_far_line, so_far_broke, drop_next}
use Rattle.gate_core.proofs.engine.feed.Goals as goal
use Rattle.gate_core.proofs.engine.feed.Goals.{then-byte-eq10+in_ok-answer, else-byte-eq10}

pub loop-byte-init : goal.loop-byte-init
loop-byte-init g c = record {
  unfailed = c.requires;
  so_far = λ begun h. record { done = []; now = begun; whole = refl; rest = refl; holds = h; fed = fed_nil _ _ _; counted = omega (arith, c.ranges.count) };
}

pub loop-byte-preserved : goal.loop-byte-preserved
loop-byte-preserved g c =
    let next = drop_next c.args.bytes.now c.loop-byte.byte-index c.loop-byte-test.true in
    elim c.if-byte-eq10.branch [
      | then-byte-eq10+in_ok-answer w ↦ rw (w.gate-is, w.line-is, w.w-is, w.count-is, w.saturating_add-count.ensures) record {
        unfailed = w.in_ok-answer.ensures.unfailed;
        so_far = λ begun h. so_far_line _ _ _ _ _ _ _ _ _ _ _ _ _ _ _ (eq-eqb _ _ w.if-byte-eq10.true) w.in_ok-answer.ensures.ok w.clear.ensures
            (rw next at (c.loop-byte.invariant.so_far begun h));
      }
      | else-byte-eq10 w ↦ rw (w.gate-is, w.line-is, w.w-is, w.count-is) record {
        unfailed = c.loop-byte.invariant.unfailed;
        so_far = λ begun h. so_far_byte _ _ _ _ _ _ _ _ _ _ _ _ _ (search rules) w.push.ensures
            (rw next at (c.loop-byte.invariant.so_far begun h));
      }
    ]

pub returns-in_err-answer-clause-err : goal.returns-in_err-answer-clause-err
returns-in_err-answer-clause-err g c =
    let p = err_from_is_err_and c.from_residual.result c.from_residual.ensures.1 in
    let next = drop_next c.args.bytes.now c.loop-byte.byte-index c.loop-byte-test.true in
    rw p.1 (λ begun h. so_far_broke _ _ _ _ _ _ _ _ _ _ _ _ _ _ (eq-eqb _ _ c.if-byte-eq10.true) c.in_err-answer.ensures.err
    (rw next at (c.loop-byte.invariant.so_far begun h)))

use Rattle.std.proofs.Common.{sym, subst}
use Rattle.std.specs.Io.KnownBytes.{Appends}
use Rattle.std.proofs.KnownBytes.{Appends-trans}
use Rattle.std.proofs.lemmas.Result.{err_from_is_err_and}
use Rattle.gate_book.proofs.FeedLemmas.{feed_next, feed_cut, nothing_of_line}
use Rattle.gate_book.proofs.feeding.write_lines.Goals as goal

pub returns-in_default-clause-text : goal.returns-in_default-clause-text
returns-in_default-clause-text g c =
    feed_cut _ _ _ c.args.kept.now c.loop-one.one-index c.one-item.result c.loop-one-test.true c.one-item.is
    c.loop-one.invariant.written (nothing_of_line _ c.one-item.result)

pub returns-in_err-write_all-clause-text : goal.returns-in_err-write_all-clause-text
returns-in_err-write_all-clause-text g c =
    let p = err_from_is_err_and c.from_residual.result c.from_residual.ensures.1 in
    rw p.1 (feed_cut _ _ _ c.args.kept.now c.loop-one.one-index c.one-item.result c.loop-one-test.true c.one-item.is
    c.loop-one.invariant.written (rw (c.as_bytes.ensures.value, c.in-Ok.ensures, c.as_str.ensures) at c.in_err-write_all.ensures.err))

pub loop-one-preserved : goal.loop-one-preserved
loop-one-preserved g c = record {
  unfailed = c.in_ok-write_all.ensures.unfailed;
  written = subst (Appends _ _)
      (sym (feed_next c.args.kept.now c.loop-one.one-index c.one-item.result c.loop-one-test.true c.one-item.is))
      (Appends-trans _ _ _ _ _ c.loop-one.invariant.written
      (rw (c.as_bytes.ensures.value, c.in-Ok.ensures, c.as_str.ensures) at c.in_ok-write_all.ensures.ok));
}

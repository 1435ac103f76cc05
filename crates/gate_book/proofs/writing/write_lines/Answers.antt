use Rattle.std.proofs.Common.{sym, subst}
use Rattle.std.specs.Io.KnownBytes.{Appends}
use Rattle.std.proofs.KnownBytes.{Appends-trans}
use Rattle.std.proofs.lemmas.Result.{err_from_is_err_and}
use Rattle.gate_book.proofs.HistoryLemmas.{lines_next, lines_cut, nothing_of_line}
use Rattle.gate_book.proofs.writing.write_lines.Goals as goal

pub returns-in_default-clause-text : goal.returns-in_default-clause-text
returns-in_default-clause-text g c =
    lines_cut _ _ _ c.args.rows.now c.loop-row.row-index c.row-item.result c.loop-row-test.true c.row-item.is
    c.loop-row.invariant.written (nothing_of_line _ c.row-item.result)

pub returns-in_err-write_all-clause-text : goal.returns-in_err-write_all-clause-text
returns-in_err-write_all-clause-text g c =
    let p = err_from_is_err_and c.from_residual.result c.from_residual.ensures.1 in
    rw p.1 (lines_cut _ _ _ c.args.rows.now c.loop-row.row-index c.row-item.result c.loop-row-test.true c.row-item.is
    c.loop-row.invariant.written (rw (c.as_bytes.ensures.value, c.in-Ok.ensures) at c.in_err-write_all.ensures.err))

pub loop-row-preserved : goal.loop-row-preserved
loop-row-preserved g c = record {
  unfailed = c.in_ok-write_all.ensures.unfailed;
  written = subst (Appends _ _)
      (sym (lines_next c.args.rows.now c.loop-row.row-index c.row-item.result c.loop-row-test.true c.row-item.is))
      (Appends-trans _ _ _ _ _ c.loop-row.invariant.written
      (rw (c.as_bytes.ensures.value, c.in-Ok.ensures) at c.in_ok-write_all.ensures.ok));
}

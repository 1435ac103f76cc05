use Rattle.std.proofs.Common.{◌≡◌, take, false}
use Rattle.std.specs.Io.KnownBytes.{Appends}
use Rattle.gate_book_trait.specs.Text.{report_lines}
use Rattle.gate_book.proofs.writing.write_lines.Given as goal

abbrev pub invariant-loop-row : goal.invariant-loop-row
invariant-loop-row g l = record {
  unfailed : l.w.failed ≡ false;
  written : Appends (g.W.Write.contents l.fn.w.inner) (g.W.Write.contents l.w.inner) (report_lines (take l.row-index l.rows));
}

use Rattle.std.proofs.Common.{◌≡◌, take, false}
use Rattle.std.specs.Io.KnownBytes.{Appends}
use Rattle.gate_archive.specs.Feed.{feed_lines}
use Rattle.gate_book.proofs.feeding.write_lines.Given as goal

abbrev pub invariant-loop-one : goal.invariant-loop-one
invariant-loop-one g l = record {
  unfailed : l.w.failed ≡ false;
  written : Appends (g.W.Write.contents l.fn.w.inner) (g.W.Write.contents l.w.inner) (feed_lines (take l.one-index l.kept));
}

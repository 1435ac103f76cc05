use Rattle.std.proofs.Common.{◌≡◌, List, ℕ, drop, false}
use Rattle.gate_core.specs.Line.{HoldsLine}
use Rattle.gate_core.proofs.RunLemmas.{SoFar}
use Rattle.gate_core.proofs.engine.feed.Given as goal

abbrev pub invariant-loop-byte : goal.invariant-loop-byte
invariant-loop-byte g l = record {
  unfailed : l.w.failed ≡ false;
  so_far : (begun : List ℕ) → HoldsLine l.fn.line begun
      → SoFar g.G.AnswerLines.replies l.fn.gate begun l.bytes (drop l.byte-index l.bytes) l.gate (g.W.Write.contents l.fn.w.inner) (g.W.Write.contents l.w.inner) l.line l.fn.count l.count;
}

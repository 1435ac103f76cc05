use Rattle.std.proofs.Common.{◌≡◌, false}
use Rattle.gate_core.proofs.RunLemmas.{Between}
use Rattle.gate_core.proofs.engine.answer_lines.Given as goal

abbrev pub invariant-loop-n : goal.invariant-loop-n
invariant-loop-n g l = record {
  reads : l.r.failed ≡ false;
  writes : l.w.failed ≡ false;
  between : Between g.G.AnswerLines.replies l.fn.gate (g.R.Read.remaining l.fn.r.inner) (g.R.Read.remaining l.r.inner) l.gate
      (g.W.Write.contents l.fn.w.inner) (g.W.Write.contents l.w.inner) l.line l.count;
}

abbrev pub decreases-loop-n : goal.decreases-loop-n
decreases-loop-n g l = l.r.turns

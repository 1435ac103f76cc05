use Rattle.std.proofs.Common.{refl, rules}
use Rattle.gate_core.proofs.RunLemmas.{between_fed, between_broke, between_failed, last_broke, last_done, none_done}
use Rattle.gate_core.proofs.RunLemmas.{one_read}
use Rattle.gate_core.proofs.engine.answer_lines.Goals as goal
use Rattle.gate_core.proofs.engine.answer_lines.Goals.{then-not-is_empty+in_default, else-not-is_empty}

pub loop-n-preserved : goal.loop-n-preserved
loop-n-preserved g c = record {
  reads = c.in-Ok-read.ensures.unfailed;
  writes = c.in-Ok-feed.ensures.unfailed;
  between = between_fed _ c.loop-n.invariant.between c.in-Ok-read.ensures.bytes.0 c.in-Ok-feed.ensures.ok;
}

pub returns-in-Err-read-clause-read : goal.returns-in-Err-read-clause-read
returns-in-Err-read-clause-read g c = λ _. between_failed _ c.loop-n.invariant.between c.in-Err-read.ensures.bytes

pub returns-in-Err-feed-clause-write : goal.returns-in-Err-feed-clause-write
returns-in-Err-feed-clause-write g c = λ _.
    between_broke _ c.loop-n.invariant.between c.in-Ok-read.ensures.bytes.0 (one_read _ _ (search rules)) c.in-Err-feed.ensures.err

pub returns-in-Err-answer-clause-write : goal.returns-in-Err-answer-clause-write
returns-in-Err-answer-clause-write g c = λ _.
    last_broke c.loop-n.invariant.between (rw c.if-n-eq0.true at c.in-Ok-read.ensures.bytes.0)
    (c.in-Ok-read.ensures.bytes.1 c.if-n-eq0.true (search rules)) (λ begun h e. let bad = (c.if-not-is_empty.ensures begun h).1 e in search rules) c.in-Err-answer.ensures.err

pub returns-clause-ok : goal.returns-clause-ok
returns-clause-ok g c = elim c.if-not-is_empty.branch [
  | then-not-is_empty+in_default w ↦ rw (w.gate-is, w.w-is, w.count-is, w.saturating_add-count.ensures)
      (last_done _ c.loop-n.invariant.between (rw c.if-n-eq0.true at c.in-Ok-read.ensures.bytes.0)
      (c.in-Ok-read.ensures.bytes.1 c.if-n-eq0.true (search rules)) (λ begun h e. let bad = (w.if-not-is_empty.ensures begun h).1 e in search rules) w.in_default.ensures.ok)
  | else-not-is_empty w ↦ rw (w.gate-is, w.w-is, w.count-is)
      (none_done _ c.loop-n.invariant.between (rw c.if-n-eq0.true at c.in-Ok-read.ensures.bytes.0)
      (c.in-Ok-read.ensures.bytes.1 c.if-n-eq0.true (search rules)) (λ begun h. (w.if-not-is_empty.ensures begun h).0 refl))
]

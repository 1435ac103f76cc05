use Rattle.std.proofs.Common.{◌∙◌, arith, refl, subst}
use Rattle.std.proofs.lemmas.List.{take_all}
use Rattle.sqlite.specs.State.{HasCleanDisk}
use Rattle.sqlite.specs.Held.{state}
use Rattle.sqlite.proofs.StateLemmas.{survives_then}
use Rattle.gate_file_changes.specs.Making.{IsFilled, first_queue_rows, with_rows}
use Rattle.gate_file_changes.proofs.QueueLemmas.{rows_more}
use Rattle.gate_rows.proofs.ThenLemmas.{kept_then, survives_itself}
use Rattle.gate_file_changes.proofs.filling.add_queues.Goals as goal

pub loop-index-init : goal.loop-index-init
loop-index-init g c = record {
  same_reference = refl;
  made = λ b clean had. had;
  inside = λ clean inside. inside;
  kept = λ clean inside. record { was_open = λ up. up; committed = λ up. refl };
  crash = survives_itself (state g.S.Store c.args.tx.now.conn.now);
}

pub loop-index-preserved : goal.loop-index-preserved
loop-index-preserved g c =
    let first = state g.S.Store c.args.tx.now.conn.now in
    let old = state g.S.Store c.loop-index.tx.conn.now in
    let new = state g.S.Store c.add_queue.new.tx.conn.now in
    let was = c.loop-index.invariant in
    record {
      same_reference = c.add_queue.ensures.same_reference ∙ was.same_reference;
      made = λ b clean had.
          let before = was.made b (omega (arith, c.add_queue.ensures.crash.clean)) had in
          subst (λ qs. IsFilled (with_rows qs b) new) (rows_more c.loop-index.index c.args.queues.now c.index-queues-index.result (omega arith) c.index-queues-index.is)
          (c.in_ok-add_queue.ensures.made _ clean before);
      inside = λ clean inside.
          let early : HasCleanDisk old = omega (arith, c.add_queue.ensures.crash.clean) in
          c.in_ok-add_queue.ensures.inside clean (was.inside early inside);
      kept = λ clean inside.
          let early : HasCleanDisk old = omega (arith, c.add_queue.ensures.crash.clean) in
          kept_then first old new (was.kept early inside) (c.add_queue.ensures.kept clean (was.inside early inside));
      crash = survives_then first old new (λ _. ⊥) (λ _. ⊥) (λ _. ⊥) (λ _ _ none. none) (λ _ _ none. none) was.crash c.add_queue.ensures.crash;
    }

pub returns-clause-made : goal.returns-clause-made
returns-clause-made g c b clean had =
    subst (λ qs. IsFilled (with_rows (first_queue_rows 0 qs) b) (state g.S.Store c.loop-index.tx.conn.now))
    (take_all c.loop-index.index c.args.queues.now (omega arith)) (c.loop-index.invariant.made b clean had)

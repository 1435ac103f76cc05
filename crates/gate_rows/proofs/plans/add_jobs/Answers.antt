use Rattle.std.proofs.Common.{◌∙◌, arith, refl}
use Rattle.sqlite.specs.State.{HasCleanDisk}
use Rattle.sqlite.specs.Held.{state}
use Rattle.sqlite.proofs.StateLemmas.{survives_then}
use Rattle.gate_rows.proofs.FitsLemmas.{first_free}
use Rattle.gate_rows.proofs.ThenLemmas.{jobs_more, kept_then, no_jobs, survives_itself}
use Rattle.gate_rows.proofs.plans.add_jobs.Goals as goal

pub loop-index-init : goal.loop-index-init
loop-index-init g c = record {
  same_reference = refl;
  changes = λ clean ready. no_jobs (state g.S.Store c.args.tx.now.conn.now) ready;
  free = λ clean ready b named stands some. absurd (omega arith);
  kept = λ clean ready. record { was_open = λ up. up; committed = λ up. refl };
  crash = survives_itself (state g.S.Store c.args.tx.now.conn.now);
}

pub loop-index-preserved : goal.loop-index-preserved
loop-index-preserved g c =
    let first = state g.S.Store c.args.tx.now.conn.now in
    let old = state g.S.Store c.loop-index.tx.conn.now in
    let new = state g.S.Store c.add_job.new.tx.conn.now in
    let was = c.loop-index.invariant in
    record {
      same_reference = c.add_job.ensures.same_reference ∙ was.same_reference;
      changes = λ clean ready.
          let before = was.changes (omega (arith, c.add_job.ensures.crash.clean)) ready in
          jobs_more first old new c.args.n c.loop-index.index c.args.jobs.now c.index-jobs-index.result (omega arith) c.index-jobs-index.is before (c.in_ok-add_job.ensures.changes clean before.ready);
      free = λ clean ready b named stands _.
          let early : HasCleanDisk old = omega (arith, c.add_job.ensures.crash.clean) in
          let before = was.changes early ready in
          first_free first old c.args.n c.loop-index.index c.args.jobs.now before (was.free early ready) (c.in_ok-add_job.ensures.free clean before.ready) b named stands;
      kept = λ clean ready.
          let early : HasCleanDisk old = omega (arith, c.add_job.ensures.crash.clean) in
          kept_then first old new (was.kept early ready) (c.add_job.ensures.kept clean (was.changes early ready).ready);
      crash = survives_then first old new (λ _. ⊥) (λ _. ⊥) (λ _. ⊥) (λ _ _ none. none) (λ _ _ none. none) was.crash c.add_job.ensures.crash;
    }

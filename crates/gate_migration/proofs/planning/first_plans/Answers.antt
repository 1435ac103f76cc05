use Rattle.std.proofs.Common.{◌≡◌, ◌∙◌, ap, arith, get_or, length}
use Rattle.std.specs.Prelude.{flat_map}
use Rattle.sqlite.specs.Held.{state}
use Rattle.sqlite.specs.State.{HasCleanDisk}
use Rattle.gate_types.specs.Migrate.{plans_of_queue}
use Rattle.gate_types.specs.Settings.{Settings}
use Rattle.gate_queue_queries.proofs.FirstReads.{first_still}
use Rattle.gate_found_rows.proofs.ReadLemmas.{only_read_then}
use Rattle.gate_migration.specs.Migrates.{puts}
use Rattle.gate_migration.proofs.PlanningLemmas.{last_queue, next_queue}
use Rattle.gate_migration.proofs.planning.first_plans.Goals as goal

pub loop-queue-preserved : goal.loop-queue-preserved
loop-queue-preserved g c =
    let first = state g.S.Store c.args.conn.now in
    let old = state g.S.Store c.loop-queue.conn in
    let new = state g.S.Store c.push_queue.new.conn in
    let was = c.loop-queue.invariant in
    let k = c.args.config.now in
    let settings : c.as_slice-queue-items.result.now ≡ k.queues = c.as_slice-queue-items.ensures ∙ ap (λ (v : Settings). v.queues) c.config.view_is in
    record {
      only_reads = only_read_then first old new was.only_reads c.push_queue.ensures.only_reads;
      found = λ clean b s shows tells.
          let early : HasCleanDisk old = c.push_queue.ensures.only_reads.clean clean in
          let still = first_still first old b (was.only_reads.stays early) shows in
          let at = was.found early b s shows tells in
          next_queue b k s (puts (flat_map (plans_of_queue k s) s.queues)) c.loop-queue.edits.items c.push_queue.new.edits.items k.queues c.loop-queue.queue-index c.queue-item.result
          (omega (arith, c.loop-queue-test.true, ap length settings)) (c.queue-item.is ∙ ap (λ l. get_or l c.loop-queue.queue-index c.queue-item.result) settings) at.0 at.1 at.2 at.3
          (λ q name its. c.in_ok-push_queue.ensures.found clean b s still tells.changes q name its);
    }

pub returns-clause-found : goal.returns-clause-found
returns-clause-found g c clean b s shows tells =
    let k = c.args.config.now in
    let settings : c.as_slice-queue-items.result.now ≡ k.queues = c.as_slice-queue-items.ensures ∙ ap (λ (v : Settings). v.queues) c.config.view_is in
    let at = c.loop-queue.invariant.found clean b s shows tells in
    last_queue b k s (puts (flat_map (plans_of_queue k s) s.queues)) c.loop-queue.edits.items k.queues c.loop-queue.queue-index (omega (arith, c.loop-queue-test.false, ap length settings)) at.0 at.1 at.3

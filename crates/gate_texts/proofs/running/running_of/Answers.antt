use Rattle.std.proofs.Common.{◌≡◌, ◌∙◌, ap, subst, true, rules}
use Rattle.gate_types.specs.Settings.{Settings, are_sound}
use Rattle.gate_reads.proofs.Queues.{queue_there}
use Rattle.gate_texts.proofs.Pieces.{no_queue_left}
use Rattle.gate_texts.proofs.RunningBuilds.{before_next, before_end}
use Rattle.gate_book_trait.proofs.KeptLemmas.{then}
use Rattle.gate_book_trait.proofs.ReadingLemmas.{is_read_under}
use Rattle.gate_texts.proofs.running.running_of.Goals as goal

pub loop-queue-preserved : goal.loop-queue-preserved
loop-queue-preserved g c = record {
  kept = then c.loop-queue.invariant.kept c.in_ok-push_queue.ensures.kept;
  told = λ trusted x holds lawful.
      let before = c.in_ok-push_queue.ensures.kept.trusted_before trusted in
      let held = c.loop-queue.invariant.kept.holds_on before _ x holds in
      let there = queue_there c.args.config.now x.state c.loop-queue.queue-index c.queue-item.result
      c.as_slice-queue-items.result.now (subst
      (λ (k : Settings). are_sound k ≡ true) c.config.view_is c.config.invariant)
      lawful.lawful.sound (c.as_slice-queue-items.ensures ∙ ap (λ (k : Settings). k.queues) c.config.view_is)
      c.loop-queue-test.true c.queue-item.is in
      before_next there c.loop-queue.running c.push_queue.new.running
      (c.loop-queue.invariant.told before x holds lawful)
      (c.in_ok-push_queue.ensures.found trusted _ x held lawful there.queue there.named);
}

pub returns : goal.returns
returns g c = is_read_under (λ trusted x holds lawful.
    before_end x.state c.loop-queue.queue-index c.loop-queue.running
    (c.loop-queue.invariant.told trusted x holds lawful)
    (no_queue_left c.args.config.now x.state c.loop-queue.queue-index c.as_slice-queue-items.result.now
    lawful.lawful.sound (c.as_slice-queue-items.ensures ∙ ap (λ (k : Settings). k.queues) c.config.view_is)
    c.loop-queue-test.false))
    (search rules) (search rules)

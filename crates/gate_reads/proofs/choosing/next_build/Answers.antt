use Rattle.std.proofs.Common.{◌≡◌, ◌∙◌, sym, ap, subst, true, rules}
use Rattle.gate_types.specs.Settings.{Settings, are_sound}
use Rattle.gate_reads.proofs.Queues.{queue_there, choice_here, choice_next}
use Rattle.gate_book_trait.proofs.KeptLemmas.{then}
use Rattle.gate_book_trait.proofs.ReadingLemmas.{is_read_under}
use Rattle.gate_reads.proofs.choosing.next_build.Goals as goal

pub returns-in-Some : goal.returns-in-Some
returns-in-Some g c = is_read_under (λ trusted x holds lawful.
    let before = c.in_ok-build.ensures.kept.trusted_before trusted in
    let held = c.loop-queue.invariant.kept.holds_on before _ x holds in
    let there = queue_there c.args.config.now x.state c.loop-queue.queue-index c.queue-item.result
    c.as_slice-queue-items.result.now (subst (λ (k : Settings). are_sound k ≡ true) c.config.view_is c.config.invariant)
    lawful.lawful.sound (c.as_slice-queue-items.ensures ∙ ap (λ (k : Settings). k.queues) c.config.view_is)
    c.loop-queue-test.true c.queue-item.is in
    choice_here there c.args.number c.in-Some.build (c.loop-queue.invariant.choice before x holds lawful)
    (sym c.in-Some.is ∙ c.in_ok-build.ensures.found trusted x held lawful there.queue there.named))
    (search rules) (search rules)

pub loop-queue-preserved : goal.loop-queue-preserved
loop-queue-preserved g c = record {
  kept = then c.loop-queue.invariant.kept c.in_ok-build.ensures.kept;
  choice = λ trusted x holds lawful.
      let before = c.in_ok-build.ensures.kept.trusted_before trusted in
      let held = c.loop-queue.invariant.kept.holds_on before _ x holds in
      let there = queue_there c.args.config.now x.state c.loop-queue.queue-index c.queue-item.result
      c.as_slice-queue-items.result.now (subst
      (λ (k : Settings). are_sound k ≡ true) c.config.view_is c.config.invariant)
      lawful.lawful.sound (c.as_slice-queue-items.ensures ∙ ap (λ (k : Settings). k.queues) c.config.view_is)
      c.loop-queue-test.true c.queue-item.is in
      choice_next there c.args.number (c.loop-queue.invariant.choice before x holds lawful)
      (sym c.in_default.is ∙ c.in_ok-build.ensures.found trusted x held lawful there.queue there.named);
}

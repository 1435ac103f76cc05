use Rattle.std.proofs.Common.{◌≡◌, ◌++◌, ◌∙◌, ap, subst, true}
use Rattle.std.specs.Prelude.{string_bytes}
use Rattle.gate_types.specs.Settings.{Settings, are_sound}
use Rattle.gate_reads.proofs.Queues.{queue_there}
use Rattle.gate_texts.proofs.Pieces.{queue_more}
use Rattle.gate_book_trait.proofs.KeptLemmas.{then}
use Rattle.gate_texts.proofs.status_text.queues_text.Goals as goal

pub loop-queue-preserved : goal.loop-queue-preserved
loop-queue-preserved g c = record {
  kept = then c.loop-queue.invariant.kept c.in_ok-rows.ensures.kept;
  shown = λ trusted x holds lawful.
      let before = c.in_ok-rows.ensures.kept.trusted_before trusted in
      let held = c.loop-queue.invariant.kept.holds_on before _ x holds in
      let there = queue_there c.args.config.now x.state c.loop-queue.queue-index c.queue-item.result
      c.as_slice-queue-items.result.now (subst
      (λ (k : Settings). are_sound k ≡ true) c.config.view_is c.config.invariant)
      lawful.lawful.sound (c.as_slice-queue-items.ensures ∙ ap (λ (k : Settings). k.queues) c.config.view_is)
      c.loop-queue-test.true c.queue-item.is in
      queue_more there (string_bytes c.loop-queue.text) (string_bytes c.in_ok-rows.rows)
      (string_bytes c.push_str.new.self) (c.loop-queue.invariant.shown before x holds lawful)
      (c.in_ok-rows.ensures.found trusted x held lawful there.queue there.named)
      (c.in_ok-push_str.ensures.bytes ∙ ap (λ l. string_bytes c.loop-queue.text ++ l) c.as_str.ensures.value);
}

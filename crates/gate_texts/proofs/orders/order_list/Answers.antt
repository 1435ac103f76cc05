use Rattle.std.proofs.Common.{◌≡◌, ◌∙◌, ap, subst, true, rules}
use Rattle.std.specs.Prelude.{string_bytes}
use Rattle.gate_types.specs.Settings.{Settings, are_sound}
use Rattle.gate_reads.proofs.Queues.{queue_there}
use Rattle.gate_texts.proofs.Pieces.{no_queue_left}
use Rattle.gate_texts.proofs.Listed.{listed_front, listed_next, listed_end}
use Rattle.gate_book_trait.proofs.KeptLemmas.{then}
use Rattle.gate_book_trait.proofs.ReadingLemmas.{is_read_under}
use Rattle.gate_texts.proofs.orders.order_list.Goals as goal

pub loop-queue-init : goal.loop-queue-init
loop-queue-init g c = record {
  kept = search rules;
  listed = λ trusted x holds lawful.
      listed_front c.args.config.now x.state (string_bytes c.new-list.result) c.new-list.ensures.bytes;
}

pub loop-queue-preserved : goal.loop-queue-preserved
loop-queue-preserved g c = record {
  kept = then c.loop-queue.invariant.kept c.in_ok-order.ensures.kept;
  listed = λ trusted x holds lawful.
      let before = c.in_ok-order.ensures.kept.trusted_before trusted in
      let held = c.loop-queue.invariant.kept.holds_on before _ x holds in
      let there = queue_there c.args.config.now x.state c.loop-queue.queue-index c.queue-item.result
      c.as_slice-queue-items.result.now (subst
      (λ (k : Settings). are_sound k ≡ true) c.config.view_is c.config.invariant)
      lawful.lawful.sound (c.as_slice-queue-items.ensures ∙ ap (λ (k : Settings). k.queues) c.config.view_is)
      c.loop-queue-test.true c.queue-item.is in
      listed_next there (string_bytes c.loop-queue.list) (string_bytes c.push_order.new.list) c.in_ok-order.order
      (c.loop-queue.invariant.listed before x holds lawful) (c.in_ok-order.ensures.found trusted x held lawful)
      c.in_ok-push_order.ensures;
}

pub returns : goal.returns
returns g c = is_read_under (λ trusted x holds lawful.
    listed_end c.args.config.now x.state c.loop-queue.queue-index (string_bytes c.loop-queue.list) c.new.result
    (c.loop-queue.invariant.listed trusted x holds lawful)
    (no_queue_left c.args.config.now x.state c.loop-queue.queue-index c.as_slice-queue-items.result.now
    lawful.lawful.sound (c.as_slice-queue-items.ensures ∙ ap (λ (k : Settings). k.queues) c.config.view_is)
    c.loop-queue-test.false)
    (c.new.ensures ∙ c.in_ok-text.ensures.ok))
    (search rules) (search rules)

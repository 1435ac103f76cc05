use Rattle.std.proofs.Common.{◌≡◌, ◌∙◌, ◌+◌, suc, drop, map, None, Some, ap, sym, arith}
use Rattle.std.specs.Prelude.{◌==◌, find, option_map, Bool}
use Rattle.gate_types.specs.declared.records.Item.{Item}
use Rattle.gate_book_trait.specs.declared.rows.QueuedItem.{QueuedItem}
use Rattle.gate_memory.specs.HeldQueues.{live_queued}
use Rattle.gate_memory.proofs.HoldingLemmas.{queued_at}
use Rattle.gate_memory.proofs.holding.item_in.Goals as goal

pub returns-in-Some : goal.returns-in-Some
returns-in-Some g c =
    let test : Item → Bool = λ i. i.serial == c.args.serial in
    let item_of : QueuedItem → Item = λ k. k.item in
    sym (ap (option_map item_of) (c.loop-queue.invariant ∙ queued_at g.Q.HoldsQueue.holds test c.args.queues.now c.loop-queue.queue-index c.queue-item.result (Some c.in-Some.item.now) c.loop-queue-test.true c.queue-item.is c.in-Some.ensures))

pub loop-queue-preserved : goal.loop-queue-preserved
loop-queue-preserved g c =
    let test : Item → Bool = λ i. i.serial == c.args.serial in
    let k = c.loop-queue.queue-index in
    let queues = c.args.queues.now in
    let step : suc k ≡ k + 1 = omega arith in
    c.loop-queue.invariant ∙ queued_at g.Q.HoldsQueue.holds test queues k c.queue-item.result None c.loop-queue-test.true c.queue-item.is c.in_default.ensures
    ∙ ap (λ n. find (λ q. test q.item) (live_queued (map g.Q.HoldsQueue.holds (drop n queues)))) step

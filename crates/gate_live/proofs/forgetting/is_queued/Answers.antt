use Rattle.std.proofs.Common.{◌≡◌, ◌∙◌, ◌+◌, true, false, suc, drop, map, ap, sym, arith}
use Rattle.std.specs.Prelude.{◌==◌, find, is_some, Bool, Option}
use Rattle.gate_types.specs.declared.records.Item.{Item}
use Rattle.gate_book_trait.specs.declared.rows.QueuedItem.{QueuedItem}
use Rattle.gate_memory.specs.HeldQueues.{live_queued}
use Rattle.gate_live.specs.Held.{queue_of}
use Rattle.gate_memory.proofs.HoldingLemmas.{queued_at, with_name}
use Rattle.gate_live.proofs.ForgetLemmas.{none_first, some_first}
use Rattle.gate_live.proofs.forgetting.is_queued.Goals as goal

pub loop-queue-preserved : goal.loop-queue-preserved
loop-queue-preserved c =
    let test : Item → Bool = λ i. i.change == c.args.change in
    let t = c.queue-item.result in
    let k = c.loop-queue.queue-index in
    let queues = c.args.queues.now in
    let step : suc k ≡ k + 1 = omega arith in
    let rest : Option QueuedItem = find (λ q. test q.item) (live_queued (map queue_of (drop (suc k) queues))) in
    let here : Option Item = find test (queue_of t).rows.items in
    let none : is_some here ≡ false = sym c.has_change.ensures ∙ c.if-has_change.false in
    c.loop-queue.invariant ∙ queued_at queue_of test queues k t here c.loop-queue-test.true c.queue-item.is (λ _. here) ∙ none_first (with_name (queue_of t)) here rest none
    ∙ ap (λ n. find (λ q. test q.item) (live_queued (map queue_of (drop n queues)))) step

pub returns-then-has_change : goal.returns-then-has_change
returns-then-has_change c =
    let test : Item → Bool = λ i. i.change == c.args.change in
    let t = c.queue-item.result in
    let k = c.loop-queue.queue-index in
    let queues = c.args.queues.now in
    let rest : Option QueuedItem = find (λ q. test q.item) (live_queued (map queue_of (drop (suc k) queues))) in
    let here : Option Item = find test (queue_of t).rows.items in
    let some : is_some here ≡ true = sym c.has_change.ensures ∙ c.if-has_change.true in
    sym (ap is_some (c.loop-queue.invariant ∙ queued_at queue_of test queues k t here c.loop-queue-test.true c.queue-item.is (λ _. here)) ∙ some_first (with_name (queue_of t)) here rest some)

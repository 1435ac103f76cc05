use Rattle.std.proofs.Common.{◌≡◌, ◌∙◌, ◌+◌, suc, drop, map, None, Some, ap, sym, arith}
use Rattle.std.specs.Prelude.{◌==◌, find, option_map, Bool, Option}
use Rattle.std.specs.Option.{option_or}
use Rattle.gate_types.specs.declared.records.Item.{Item}
use Rattle.gate_book_trait.specs.declared.rows.QueuedItem.{QueuedItem}
use Rattle.gate_memory.specs.HeldQueues.{live_queued}
use Rattle.gate_memory.proofs.HoldingLemmas.{queued_at, with_name}
use Rattle.gate_memory.proofs.holding.queued_in.Goals as goal

pub returns-in-Some : goal.returns-in-Some
returns-in-Some g c =
    let test : Item → Bool = λ i. i.change == c.args.change in
    let t = c.queue-item.result in
    let k = c.loop-queue.queue-index in
    let queues = c.args.queues.now in
    let rest : Option QueuedItem = find (λ q. test q.item) (live_queued (map g.Q.HoldsQueue.holds (drop (suc k) queues))) in
    let found : Some c.in-Some.found ≡ option_map (with_name (g.Q.HoldsQueue.holds t)) (find test (g.Q.HoldsQueue.holds t).rows.items) = sym c.in-Some.is ∙ c.in_ok-found.ensures in
    sym (c.loop-queue.invariant ∙ queued_at g.Q.HoldsQueue.holds test queues k t (find test (g.Q.HoldsQueue.holds t).rows.items) c.loop-queue-test.true c.queue-item.is (λ _. find test (g.Q.HoldsQueue.holds t).rows.items) ∙ ap (λ o. option_or o rest) (sym found))

pub loop-queue-preserved : goal.loop-queue-preserved
loop-queue-preserved g c =
    let test : Item → Bool = λ i. i.change == c.args.change in
    let t = c.queue-item.result in
    let k = c.loop-queue.queue-index in
    let queues = c.args.queues.now in
    let step : suc k ≡ k + 1 = omega arith in
    let rest : Option QueuedItem = find (λ q. test q.item) (live_queued (map g.Q.HoldsQueue.holds (drop (suc k) queues))) in
    let found : None ≡ option_map (with_name (g.Q.HoldsQueue.holds t)) (find test (g.Q.HoldsQueue.holds t).rows.items) = sym c.in_default.is ∙ c.in_ok-found.ensures in
    c.loop-queue.invariant ∙ queued_at g.Q.HoldsQueue.holds test queues k t (find test (g.Q.HoldsQueue.holds t).rows.items) c.loop-queue-test.true c.queue-item.is (λ _. find test (g.Q.HoldsQueue.holds t).rows.items) ∙ ap (λ o. option_or o rest) (sym found)
    ∙ ap (λ n. find (λ q. test q.item) (live_queued (map g.Q.HoldsQueue.holds (drop n queues)))) step

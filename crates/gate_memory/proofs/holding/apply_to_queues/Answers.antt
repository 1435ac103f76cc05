use Rattle.std.proofs.Common.{◌≡◌, ◌∙◌, ◌<◌, ◌≤◌, ◌+◌, suc, length, take, drop, ◌++◌, map, set, sym, ap, subst, arith}
use Rattle.std.proofs.lemmas.Simd.{map-map}
use Rattle.gate_memory.proofs.LoopLemmas.{Done, done_at, done_length, done_next, done_map, done_all, all_at, whole}
use Rattle.gate_memory.proofs.HoldingLemmas.{Edited}
use Rattle.gate_memory.proofs.holding.apply_to_queues.Goals as goal

pub loop-queue-init : goal.loop-queue-init
loop-queue-init g c = c.deref_mut-queue-items.ensures.value

pub apply-requires-clause-kept : goal.apply-requires-clause-kept
apply-requires-clause-kept g c =
    let olds = c.args.queues.now.items in
    let k = c.loop-queue.queue-index in
    let d = c.queue-item.result in
    let l : k < length olds = omega (arith, c.loop-queue-test.true, ap length c.deref_mut-queue-items.ensures.value) in
    subst (λ q. g.Q.HoldsQueue.IsKept q) (sym (done_at (Edited g.Q.HoldsQueue.holds (g.Q.HoldsQueue.edited c.args.edit.now) g.Q.HoldsQueue.IsKept g.Q.HoldsQueue.HasRoom) k olds c.loop-queue.queue-items d c.loop-queue.invariant)) (all_at g.Q.HoldsQueue.IsKept olds k d c.requires.kept l)

pub apply-requires-clause-room : goal.apply-requires-clause-room
apply-requires-clause-room g c =
    let olds = c.args.queues.now.items in
    let k = c.loop-queue.queue-index in
    let d = c.queue-item.result in
    let l : k < length olds = omega (arith, c.loop-queue-test.true, ap length c.deref_mut-queue-items.ensures.value) in
    subst (λ q. g.Q.HoldsQueue.HasRoom 1 q) (sym (done_at (Edited g.Q.HoldsQueue.holds (g.Q.HoldsQueue.edited c.args.edit.now) g.Q.HoldsQueue.IsKept g.Q.HoldsQueue.HasRoom) k olds c.loop-queue.queue-items d c.loop-queue.invariant)) (all_at (g.Q.HoldsQueue.HasRoom 1) olds k d c.requires.room l)

pub loop-queue-preserved : goal.loop-queue-preserved
loop-queue-preserved g c =
    let olds = c.args.queues.now.items in
    let news = c.loop-queue.queue-items in
    let k = c.loop-queue.queue-index in
    let d = c.queue-item.result in
    let l : k < length news = omega (arith, c.loop-queue-test.true, c.loop-queue.auto.queue-items) in
    let step : suc k ≡ k + 1 = omega arith in
    subst (λ n. Done (Edited g.Q.HoldsQueue.holds (g.Q.HoldsQueue.edited c.args.edit.now) g.Q.HoldsQueue.IsKept g.Q.HoldsQueue.HasRoom) n olds (set news k c.apply.new.self)) step
    (done_next (Edited g.Q.HoldsQueue.holds (g.Q.HoldsQueue.edited c.args.edit.now) g.Q.HoldsQueue.IsKept g.Q.HoldsQueue.HasRoom) k olds news d c.apply.new.self l (record { rows = c.apply.ensures.rows; kept = c.apply.ensures.kept; room = c.apply.ensures.room }) c.loop-queue.invariant)

-- what stands at the end is the list of the loop
ends : (g : _) (c : goal.After-queues-1 g) → take c.args.queues.now.len (c.loop-queue.queue-items ++ drop (length c.loop-queue.queue-items) c.args.queues.now.items) ≡ c.loop-queue.queue-items
ends g c =
    let olds = c.args.queues.now.items in
    let news = c.loop-queue.queue-items in
    let same : length news ≡ length olds = done_length (Edited g.Q.HoldsQueue.holds (g.Q.HoldsQueue.edited c.args.edit.now) g.Q.HoldsQueue.IsKept g.Q.HoldsQueue.HasRoom) c.loop-queue.queue-index olds news c.loop-queue.invariant in
    let len : c.args.queues.now.len ≡ length olds = omega (arith, c.args.queues.now.ok.0) in
    whole news olds c.args.queues.now.len same len

all_done : (g : _) (c : goal.After-queues-1 g) → length c.args.queues.now.items ≤ c.loop-queue.queue-index
all_done g c = omega (arith, c.loop-queue-test.false, ap length c.deref_mut-queue-items.ensures.value)

pub returns-clause-rows : goal.returns-clause-rows
returns-clause-rows g c =
    let olds = c.args.queues.now.items in
    let e = c.args.edit.now in
    ap (map g.Q.HoldsQueue.holds) (ends g c)
    ∙ done_map (Edited g.Q.HoldsQueue.holds (g.Q.HoldsQueue.edited e) g.Q.HoldsQueue.IsKept g.Q.HoldsQueue.HasRoom) g.Q.HoldsQueue.holds (λ q. g.Q.HoldsQueue.edited e (g.Q.HoldsQueue.holds q)) (λ o n t. t.rows) c.loop-queue.queue-index olds c.loop-queue.queue-items (all_done g c) c.loop-queue.invariant
    ∙ sym (map-map (g.Q.HoldsQueue.edited e) g.Q.HoldsQueue.holds olds)

pub returns-clause-kept : goal.returns-clause-kept
returns-clause-kept g c =
    let olds = c.args.queues.now.items in
    rw (ends g c) (done_all (Edited g.Q.HoldsQueue.holds (g.Q.HoldsQueue.edited c.args.edit.now) g.Q.HoldsQueue.IsKept g.Q.HoldsQueue.HasRoom) g.Q.HoldsQueue.IsKept g.Q.HoldsQueue.IsKept (λ o n q t. t.kept) c.loop-queue.queue-index olds c.loop-queue.queue-items (all_done g c) c.requires.kept c.loop-queue.invariant)

pub returns-clause-room : goal.returns-clause-room
returns-clause-room g c n room =
    let olds = c.args.queues.now.items in
    rw (ends g c) (done_all (Edited g.Q.HoldsQueue.holds (g.Q.HoldsQueue.edited c.args.edit.now) g.Q.HoldsQueue.IsKept g.Q.HoldsQueue.HasRoom) (g.Q.HoldsQueue.HasRoom (suc n)) (g.Q.HoldsQueue.HasRoom n) (λ o m q t. t.room n q) c.loop-queue.queue-index olds c.loop-queue.queue-items (all_done g c) room c.loop-queue.invariant)

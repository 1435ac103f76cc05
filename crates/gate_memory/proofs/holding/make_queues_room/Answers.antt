use Rattle.std.proofs.Common.{◌≡◌, ◌∙◌, ◌<◌, ◌≤◌, ◌+◌, suc, length, take, drop, ◌++◌, map, get_or, set, sym, ap}
use Rattle.std.proofs.Common.{subst, arith}
use Rattle.gate_memory.proofs.LoopLemmas.{Done, done_at, done_length, done_next, done_weaker, done_same, done_kept}
use Rattle.gate_memory.proofs.LoopLemmas.{done_all, all_at, whole}
use Rattle.gate_memory.proofs.HoldingLemmas.{Stays, Roomy}
use Rattle.gate_memory.proofs.holding.make_queues_room.Goals as goal

pub make_room-requires : goal.make_room-requires
make_room-requires g c =
    let olds = c.args.queues.now.items in
    let k = c.loop-queue.queue-index in
    let d = c.queue-item.result in
    let l : k < length olds = omega (arith, c.loop-queue-test.true, ap length c.deref_mut-queue-items.ensures.value) in
    subst (λ q. g.Q.HoldsQueue.IsKept q) (sym (done_at (Roomy g.Q.HoldsQueue.holds g.Q.HoldsQueue.IsKept g.Q.HoldsQueue.HasRoom c.args.n) k olds c.loop-queue.queue-items d c.loop-queue.invariant)) (all_at g.Q.HoldsQueue.IsKept olds k d c.requires l)

pub loop-queue-preserved : goal.loop-queue-preserved
loop-queue-preserved g c =
    let olds = c.args.queues.now.items in
    let news = c.loop-queue.queue-items in
    let k = c.loop-queue.queue-index in
    let d = c.queue-item.result in
    let l : k < length news = omega (arith, c.loop-queue-test.true, c.loop-queue.auto.queue-items) in
    let step : suc k ≡ k + 1 = omega arith in
    let roomy : Roomy g.Q.HoldsQueue.holds g.Q.HoldsQueue.IsKept g.Q.HoldsQueue.HasRoom c.args.n (get_or news k d) c.make_room.new.self = record { rows = c.in_ok-make_room.ensures.rows; kept = c.in_ok-make_room.ensures.kept; room = c.in_ok-make_room.ensures.room } in
    subst (λ n. Done (Roomy g.Q.HoldsQueue.holds g.Q.HoldsQueue.IsKept g.Q.HoldsQueue.HasRoom c.args.n) n olds (set news k c.make_room.new.self)) step
    (done_next (Roomy g.Q.HoldsQueue.holds g.Q.HoldsQueue.IsKept g.Q.HoldsQueue.HasRoom c.args.n) k olds news d c.make_room.new.self l roomy c.loop-queue.invariant)

-- where memory is refused, each queue is as it was
stays : (g : _) (c : goal.After-from_residual g) → Done (Stays g.Q.HoldsQueue.holds g.Q.HoldsQueue.IsKept) (suc c.loop-queue.queue-index) c.args.queues.now.items (set c.loop-queue.queue-items c.loop-queue.queue-index c.make_room.new.self)
stays g c =
    let olds = c.args.queues.now.items in
    let news = c.loop-queue.queue-items in
    let k = c.loop-queue.queue-index in
    let d = c.queue-item.result in
    let l : k < length news = omega (arith, c.loop-queue-test.true, c.loop-queue.auto.queue-items) in
    done_next (Stays g.Q.HoldsQueue.holds g.Q.HoldsQueue.IsKept) k olds news d c.make_room.new.self l (record { rows = c.in_err-make_room.ensures.rows; kept = c.in_err-make_room.ensures.kept })
    (done_weaker (Roomy g.Q.HoldsQueue.holds g.Q.HoldsQueue.IsKept g.Q.HoldsQueue.HasRoom c.args.n) (Stays g.Q.HoldsQueue.holds g.Q.HoldsQueue.IsKept) (λ o n t. record { rows = t.rows; kept = t.kept }) k olds news c.loop-queue.invariant)

stays_whole : (g : _) (c : goal.After-from_residual g) → take c.args.queues.now.len (set c.loop-queue.queue-items c.loop-queue.queue-index c.make_room.new.self ++ drop (length (set c.loop-queue.queue-items c.loop-queue.queue-index c.make_room.new.self)) c.args.queues.now.items) ≡ set c.loop-queue.queue-items c.loop-queue.queue-index c.make_room.new.self
stays_whole g c =
    let olds = c.args.queues.now.items in
    let news = set c.loop-queue.queue-items c.loop-queue.queue-index c.make_room.new.self in
    let same : length news ≡ length olds = done_length (Stays g.Q.HoldsQueue.holds g.Q.HoldsQueue.IsKept) (suc c.loop-queue.queue-index) olds news (stays g c) in
    let len : c.args.queues.now.len ≡ length olds = omega (arith, c.args.queues.now.ok.0) in
    whole news olds c.args.queues.now.len same len

pub returns-in_err-make_room-clause-rows : goal.returns-in_err-make_room-clause-rows
returns-in_err-make_room-clause-rows g c =
    let news = set c.loop-queue.queue-items c.loop-queue.queue-index c.make_room.new.self in
    ap (map g.Q.HoldsQueue.holds) (stays_whole g c) ∙ done_same (Stays g.Q.HoldsQueue.holds g.Q.HoldsQueue.IsKept) g.Q.HoldsQueue.holds (λ o n t. t.rows) (suc c.loop-queue.queue-index) c.args.queues.now.items news (stays g c)

pub returns-in_err-make_room-clause-kept : goal.returns-in_err-make_room-clause-kept
returns-in_err-make_room-clause-kept g c =
    let news = set c.loop-queue.queue-items c.loop-queue.queue-index c.make_room.new.self in
    rw (stays_whole g c) (done_kept (Stays g.Q.HoldsQueue.holds g.Q.HoldsQueue.IsKept) g.Q.HoldsQueue.IsKept (λ o n t. t.kept) (suc c.loop-queue.queue-index) c.args.queues.now.items news c.requires (stays g c))

-- what stands at the end is the list of the loop
ends : (g : _) (c : goal.After-queues-1 g) → take c.args.queues.now.len (c.loop-queue.queue-items ++ drop (length c.loop-queue.queue-items) c.args.queues.now.items) ≡ c.loop-queue.queue-items
ends g c =
    let olds = c.args.queues.now.items in
    let news = c.loop-queue.queue-items in
    let same : length news ≡ length olds = done_length (Roomy g.Q.HoldsQueue.holds g.Q.HoldsQueue.IsKept g.Q.HoldsQueue.HasRoom c.args.n) c.loop-queue.queue-index olds news c.loop-queue.invariant in
    let len : c.args.queues.now.len ≡ length olds = omega (arith, c.args.queues.now.ok.0) in
    whole news olds c.args.queues.now.len same len

pub returns-clause-rows : goal.returns-clause-rows
returns-clause-rows g c =
    let olds = c.args.queues.now.items in
    ap (map g.Q.HoldsQueue.holds) (ends g c) ∙ done_same (Roomy g.Q.HoldsQueue.holds g.Q.HoldsQueue.IsKept g.Q.HoldsQueue.HasRoom c.args.n) g.Q.HoldsQueue.holds (λ o n t. t.rows) c.loop-queue.queue-index olds c.loop-queue.queue-items c.loop-queue.invariant

pub returns-clause-kept : goal.returns-clause-kept
returns-clause-kept g c =
    let olds = c.args.queues.now.items in
    rw (ends g c) (done_kept (Roomy g.Q.HoldsQueue.holds g.Q.HoldsQueue.IsKept g.Q.HoldsQueue.HasRoom c.args.n) g.Q.HoldsQueue.IsKept (λ o n t. t.kept) c.loop-queue.queue-index olds c.loop-queue.queue-items c.requires c.loop-queue.invariant)

pub returns-clause-room : goal.returns-clause-room
returns-clause-room g c =
    let olds = c.args.queues.now.items in
    let all : length olds ≤ c.loop-queue.queue-index = omega (arith, c.loop-queue-test.false, ap length c.deref_mut-queue-items.ensures.value) in
    rw (ends g c) (done_all (Roomy g.Q.HoldsQueue.holds g.Q.HoldsQueue.IsKept g.Q.HoldsQueue.HasRoom c.args.n) g.Q.HoldsQueue.IsKept (g.Q.HoldsQueue.HasRoom c.args.n) (λ o n q t. t.room) c.loop-queue.queue-index olds c.loop-queue.queue-items all c.requires c.loop-queue.invariant)

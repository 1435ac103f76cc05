-- Each serial of a sound state was drawn: the order counter is at least that.
use Rattle.std.proofs.Common.{◌≡◌, ℕ, ◌≤◌, true, map, subst}
use Rattle.std.specs.Prelude.{nat_le}
use Rattle.std.specs.List.{flat_map}
use Rattle.std.proofs.lemmas.Bool.{leb-true}
use Rattle.gate_types.specs.declared.records.Build.{Build}
use Rattle.gate_types.specs.declared.records.Landing.{Landing}
use Rattle.gate_types.specs.declared.records.Report.{Report}
use Rattle.gate_types.specs.Settings.{Settings}
use Rattle.gate_types.specs.State.{Item, Queue, State}
use Rattle.gate_types.specs.Lawful.{IsSound, serials_of, drawn_serials}
use Rattle.gate_types.specs.Rising.{In}
use Rattle.gate_laws.proofs.Members.{every, to_map, to_left, to_right, to_flat}
use Rattle.gate_laws.proofs.Alone.{item_serials, report_serials}
use Rattle.gate_laws.proofs.Serials.{landing_report}

pub drawn : (c : Settings) (s : State) → IsSound c s → (n : ℕ) → In n (drawn_serials s) → n ≤ s.counters.order
drawn c s h n m = leb-true n s.counters.order
    (every (λ k. nat_le k s.counters.order ≡ true) (drawn_serials s) h.serials_are_drawn n m)

-- a serial of a queue
of_queue : (s : State) (q : Queue) → In q s.queues → (n : ℕ) → In n (serials_of q) → In n (drawn_serials s)
of_queue s q mq n m = to_left (flat_map serials_of s.queues) (map (λ b. b.serial) s.builds) n
    (to_flat serials_of s.queues q n mq m)

pub item_drawn : (c : Settings) (s : State) → IsSound c s → (q : Queue) → In q s.queues → (i : Item) → In i q.items →
    i.serial ≤ s.counters.order
item_drawn c s h q mq i mi =
    drawn c s h i.serial (of_queue s q mq i.serial (to_left (item_serials q) (report_serials q) i.serial
    (to_map (λ (j : Item). j.serial) q.items i mi)))

pub report_drawn : (c : Settings) (s : State) → IsSound c s → (q : Queue) → In q s.queues → (r : Report) →
    In r q.reports → r.serial ≤ s.counters.order
report_drawn c s h q mq r mr =
    drawn c s h r.serial (of_queue s q mq r.serial (to_right (item_serials q) (report_serials q) r.serial
    (to_map (λ (j : Report). j.serial) q.reports r mr)))

pub landing_drawn : (c : Settings) (s : State) → IsSound c s → (q : Queue) → In q s.queues → (l : Landing) →
    In l q.landings → l.serial ≤ s.counters.order
landing_drawn c s h q mq l ml =
    let x = landing_report c s h q mq l ml in
    subst (λ n. n ≤ s.counters.order) x.2 (report_drawn c s h q mq x.0 x.1)

pub build_drawn : (c : Settings) (s : State) → IsSound c s → (b : Build) → In b s.builds → b.serial ≤ s.counters.order
build_drawn c s h b m =
    drawn c s h b.serial (to_right (flat_map serials_of s.queues) (map (λ b. b.serial) s.builds) b.serial
    (to_map (λ (b : Build). b.serial) s.builds b m))

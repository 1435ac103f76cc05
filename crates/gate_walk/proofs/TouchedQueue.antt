-- The touched queue has an item that the delivery is on.
use Rattle.std.proofs.Common.{◌≡◌, ℕ, Bool, true, false, Option, Some, None, List, refl, sym, ap, ◌∙◌}
use Rattle.std.specs.Prelude.{◌==◌, find, option_map}
use Rattle.std.specs.Option.{option_map_or}
use Rattle.std.proofs.lemmas.Bool.{eqb-true, eq-eqb}
use Rattle.std.proofs.lemmas.Option.{same_Some, none-some}
use Rattle.gate_types.specs.declared.records.Build.{Build}
use Rattle.gate_types.specs.declared.deliveries.Delivery.{Delivery}
use Rattle.gate_types.specs.declared.deliveries.Delivery.TheVariants as delivery
use Rattle.gate_types.specs.Settings.{Settings}
use Rattle.gate_types.specs.State.{Item, Queue, State, has_change}
use Rattle.gate_types.specs.SubmitOrder.{Order, shown_order}
use Rattle.gate_types.specs.Step.{build_of}
use Rattle.gate_types.specs.Rising.{In}
use Rattle.gate_laws.specs.Touch.{has_serial, touched_by, queue_of_change, queue_of_serial, queue_of_order, is_on}
use Rattle.gate_laws.specs.Touch.{queue_of_build}
use Rattle.gate_walk.specs.Delivery.{HasTouched}
use Rattle.gate_laws.proofs.Members.{any_from, found, in_split}
use Rattle.gate_laws.proofs.ShownOrders.{order_from}
use Rattle.gate_laws.proofs.OrderTouches.{order_queue, order_item}

-- from the item and its queue
parted_at : (s : State) (d : Delivery) (name : List ℕ) (q : Queue) (i : Item) → In q s.queues → q.name ≡ name → In i q.items → is_on s d i ≡ true → HasTouched s d name
parted_at s d name q i mq e mi on =
    let a = in_split s.queues q mq in
    let b = in_split q.items i mi in
    record { queue = q; before = a.0; after = a.1; queues = a.2; named = e; item = i; ahead = b.0; behind = b.1; items = b.2; on = on }

-- the first queue that passes a test
first_named : (test : Queue → Bool) (qs : List Queue) (name : List ℕ) → option_map (λ q. q.name) (find test qs) ≡ Some name → (q : Queue) × In q qs × (test q ≡ true) × (q.name ≡ name)
first_named test qs name h = by_first (find test qs) refl h
  where
    by_first : (f : Option Queue) → find test qs ≡ f → option_map (λ q. q.name) f ≡ Some name → (q : Queue) × In q qs × (test q ≡ true) × (q.name ≡ name)
    by_first None e k = absurd (none-some name k)
    by_first (Some q) e k = let x = found test qs q e in (q, x.0, x.1, same_Some q.name name k)

by_change : (s : State) (d : Delivery) (n : ℕ) (name : List ℕ) → ((i : Item) → i.change == n ≡ true → is_on s d i ≡ true) → queue_of_change s n ≡ Some name → HasTouched s d name
by_change s d n name on h =
    let x = first_named (λ q. has_change q.items n) s.queues name h in
    let y = any_from (λ (i : Item). i.change == n) x.0.items x.2 in
    parted_at s d name x.0 y.0 x.1 x.3 y.1 (on y.0 y.2)

by_order : (c : Settings) (s : State) (d : Delivery) (n : ℕ) (name : List ℕ) → ((i : Item) → i.serial == n ≡ true → is_on s d i ≡ true) → queue_of_order c s n ≡ Some name → HasTouched s d name
by_order c s d n name on h = by_shown (shown_order c s n) refl h
  where
    by_shown : (f : Option Order) → shown_order c s n ≡ f → option_map (λ (o : Order). o.queue.name) f ≡ Some name → HasTouched s d name
    by_shown None e k = absurd (none-some name k)
    by_shown (Some o) e k = let x = order_from c s n o e in parted_at s d name o.queue o.item (order_queue c s o x.0) (same_Some o.queue.name name k) (order_item c s o x.0) (on o.item x.1)

by_build : (s : State) (d : Delivery) (n : ℕ) (name : List ℕ) → ((i : Item) → option_map_or (λ (b : Build). b.serial == i.serial) (build_of s n) false ≡ true → is_on s d i ≡ true) → queue_of_build s n ≡ Some name → HasTouched s d name
by_build s d n name on h = by_known (build_of s n) refl h
  where
    by_known : (f : Option Build) → build_of s n ≡ f → option_map_or (λ (b : Build). queue_of_serial s b.serial) f None ≡ Some name → HasTouched s d name
    by_known None e k = absurd (none-some name k)
    by_known (Some b) e k =
        let x = first_named (λ q. has_serial q.items b.serial) s.queues name k in
        let y = any_from (λ (i : Item). i.serial == b.serial) x.0.items x.2 in
        parted_at s d name x.0 y.0 x.1 x.3 y.1
        (on y.0 (ap (λ o. option_map_or (λ (z : Build). z.serial == y.0.serial) o false) e ∙ eq-eqb b.serial y.0.serial (sym (eqb-true y.0.serial b.serial y.2))))

pub has_touched : (c : Settings) (s : State) (d : Delivery) (name : List ℕ) → touched_by c s d ≡ Some name → HasTouched s d name
has_touched c s (delivery.Revision n project r message) name h = by_change s (delivery.Revision n project r message) n name (λ i e. e) h
has_touched c s (delivery.Approved n r) name h = absurd (none-some name h)
has_touched c s (delivery.Withdrawn n r) name h = by_change s (delivery.Withdrawn n r) n name (λ i e. e) h
has_touched c s (delivery.Closed n r) name h = by_change s (delivery.Closed n r) n name (λ i e. e) h
has_touched c s (delivery.Landed n) name h = by_order c s (delivery.Landed n) n name (λ i e. e) h
has_touched c s (delivery.Refused n) name h = by_order c s (delivery.Refused n) n name (λ i e. e) h
has_touched c s (delivery.Take worker) name h = absurd (none-some name h)
has_touched c s (delivery.Result n e) name h = by_build s (delivery.Result n e) n name (λ i k. k) h

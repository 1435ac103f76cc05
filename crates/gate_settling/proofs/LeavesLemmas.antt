-- What an accepted delivery on an item of a lawful state leaves before settling, kind by kind.
use Rattle.std.proofs.Common.{◌≡◌, ℕ, ◌+◌, true, false, List, ◌∷◌, ◌++◌, length, inl, inr, refl, sym, ◌∙◌, subst}
use Rattle.std.proofs.Common.{true≢false}
use Rattle.std.specs.Prelude.{◌==◌}
use Rattle.std.proofs.lemmas.Bool.{eqb-true}
use Rattle.gate_types.specs.declared.records.Verdict.TheVariants as verdict
use Rattle.gate_types.specs.declared.deliveries.Delivery.{Delivery}
use Rattle.gate_types.specs.declared.deliveries.Delivery.TheVariants as delivery
use Rattle.gate_types.specs.declared.deliveries.Reply.{Reply}
use Rattle.gate_types.specs.Settings.{Settings}
use Rattle.gate_types.specs.State.{Item, Queue, State, has_change}
use Rattle.gate_types.specs.SubmitOrder.{Order}
use Rattle.gate_types.specs.Step.{accepted, raw_step, leave, left_queue, revised, shrunk_queue, landed_queue}
use Rattle.gate_types.specs.Step.{end_build, raw_revision, raw_withdrawn, raw_closed, raw_landed, raw_refused}
use Rattle.gate_types.specs.Rising.{In}
use Rattle.gate_walk.specs.Rescan.{HasLeft, HasLanded}
use Rattle.gate_walk.specs.Kinds.{IsIn}
use Rattle.gate_laws.specs.Touch.{is_on, is_stale}
use Rattle.gate_walk.specs.Delivery.{moved}
use Rattle.gate_laws.proofs.Members.{any_to, to_right}
use Rattle.gate_laws.proofs.EachAccepted.{closed_state, new_revision, landed_state, refused_state}
use Rattle.gate_walk.proofs.EachReply.{OnReply, on_reply, withdrawn_reply, closed_reply, revision_reply, landed_reply}
use Rattle.gate_walk.proofs.EachReply.{refused_reply, result_reply}
use Rattle.gate_walk.proofs.Leaving.{items_leave}
use Rattle.gate_walk.proofs.Deliveries.{order_is}

-- the item left, or it landed, or a build has ended
abbrev pub Leaves : Settings → State → Delivery → Queue → List Item → Item → List Item → State → Type 0
Leaves c s (delivery.Landed n) q is i js t = HasLanded c s t q (moved c (delivery.Landed n) q i) i (is ++ js)
Leaves c s (delivery.Result n e) q is i js t = t ≡ end_build e n s
Leaves c s d q is i js t = HasLeft c s t q (moved c d q i) i (is ++ js)

queue_in : {c : Settings} {s : State} {q : Queue} {is : List Item} {i : Item} {js : List Item} → IsIn c s q is i js →
    In q s.queues
queue_in {q = q} h = subst (In q) (sym h.queues) (to_right h.before (q ∷ h.after) q (inl refl))

item_in : {c : Settings} {s : State} {q : Queue} {is : List Item} {i : Item} {js : List Item} → IsIn c s q is i js →
    In i q.items
item_in {is = is} {i = i} {js = js} h = subst (In i) (sym h.items) (to_right is (i ∷ js) i (inl refl))

withdrawn_leaves : (c : Settings) (s : State) (n r : ℕ) (q : Queue) (is : List Item) (i : Item) (js : List Item) →
    IsIn c s q is i js → i.change == n ≡ true →
    OnReply s (Leaves c s (delivery.Withdrawn n r) q is i js) (raw_withdrawn c s n r)
withdrawn_leaves c s n r q is i js h on =
    let o = left_queue verdict.Withdrawn i.change q in
    withdrawn_reply (Leaves c s (delivery.Withdrawn n r) q is i js) c s n r
    (subst (λ m. HasLeft c s (leave verdict.Withdrawn m s) q o i (is ++ js)) (eqb-true i.change n on)
    (items_leave.withdrawn c s q is i js h))
    (λ away. absurd (true≢false (sym (any_to (λ (x : Queue). has_change x.items n) s.queues q (queue_in h)
    (any_to (λ (j : Item). j.change == n) q.items i (item_in h) on)) ∙ away)))

closed_leaves : (c : Settings) (s : State) (n r : ℕ) (q : Queue) (is : List Item) (i : Item) (js : List Item) →
    IsIn c s q is i js → i.change == n ≡ true →
    OnReply s (Leaves c s (delivery.Closed n r) q is i js) (raw_closed c s n r)
closed_leaves c s n r q is i js h on =
    let o = left_queue verdict.Closed i.change q in
    closed_reply (Leaves c s (delivery.Closed n r) q is i js) c s n r
    (subst (λ m. HasLeft c s (closed_state m s) q o i (is ++ js)) (eqb-true i.change n on)
    (items_leave.closed c s q is i js h))

revision_leaves : (c : Settings) (s : State) (n : ℕ) (name : List ℕ) (r : ℕ) (message : List ℕ) (q : Queue)
    (is : List Item) (i : Item) (js : List Item) → IsIn c s q is i js → i.change == n ≡ true →
    OnReply s (Leaves c s (delivery.Revision n name r message) q is i js) (raw_revision c s n name r message)
revision_leaves c s n name r message q is i js h on =
    let o = left_queue verdict.Superseded i.change q in
    revision_reply (Leaves c s (delivery.Revision n name r message) q is i js) c s n name r message
    (subst (λ m. HasLeft c s (revised (new_revision c m name r message) s) q o i (is ++ js)) (eqb-true i.change n on)
    (items_leave.superseded c s q is i js (new_revision c i.change name r message) h refl refl))

refused_leaves : (c : Settings) (s : State) (n : ℕ) (q : Queue) (is : List Item) (i : Item) (js : List Item) →
    IsIn c s q is i js → i.serial == n ≡ true →
    OnReply s (Leaves c s (delivery.Refused n) q is i js) (raw_refused c s n)
refused_leaves c s n q is i js h on =
    let o = shrunk_queue c (left_queue verdict.Refused i.change q) in
    refused_reply (Leaves c s (delivery.Refused n) q is i js) c s n
    (λ x e. subst (λ (y : Order). HasLeft c s (refused_state c y s) q o i (is ++ js))
    (sym (order_is c s n x h.sound e q i (queue_in h) (item_in h) on)) (items_leave.refused c s q is i js h))

landed_leaves : (c : Settings) (s : State) (n : ℕ) (q : Queue) (is : List Item) (i : Item) (js : List Item) →
    IsIn c s q is i js → i.serial == n ≡ true → OnReply s (Leaves c s (delivery.Landed n) q is i js) (raw_landed c s n)
landed_leaves c s n q is i js h on =
    let o = landed_queue c i (left_queue (verdict.Landed (length q.landings + 1)) i.change q) in
    landed_reply (Leaves c s (delivery.Landed n) q is i js) c s n
    (λ x e. subst (λ (y : Order). HasLanded c s (landed_state c y s) q o i (is ++ js))
    (sym (order_is c s n x h.sound e q i (queue_in h) (item_in h) on))
    (items_leave.landed c s q is i js (length q.landings + 1) h))

each_leaves : (c : Settings) (s : State) (d : Delivery) (q : Queue) (is : List Item) (i : Item) (js : List Item) →
    IsIn c s q is i js → is_on s d i ≡ true → OnReply s (Leaves c s d q is i js) (raw_step c s d)
each_leaves c s (delivery.Revision n name r message) q is i js h on =
    revision_leaves c s n name r message q is i js h on
each_leaves c s (delivery.Approved n r) q is i js h on = absurd (true≢false (sym on))
each_leaves c s (delivery.Withdrawn n r) q is i js h on = withdrawn_leaves c s n r q is i js h on
each_leaves c s (delivery.Closed n r) q is i js h on = closed_leaves c s n r q is i js h on
each_leaves c s (delivery.Landed n) q is i js h on = landed_leaves c s n q is i js h on
each_leaves c s (delivery.Refused n) q is i js h on = refused_leaves c s n q is i js h on
each_leaves c s (delivery.Take worker) q is i js h on = absurd (true≢false (sym on))
each_leaves c s (delivery.Result n e) q is i js h on =
    result_reply (Leaves c s (delivery.Result n e) q is i js) s n e (λ a known live. refl)

pub leaves : (c : Settings) (s : State) (d : Delivery) (r : Reply) (t : State) (q : Queue) (is : List Item) (i : Item)
    (js : List Item) → IsIn c s q is i js → is_on s d i ≡ true → raw_step c s d ≡ accepted r t → is_stale r ≡ false →
    Leaves c s d q is i js t
leaves c s d r t q is i js h on e acts =
    elim (on_reply s (Leaves c s d q is i js) (raw_step c s d) (each_leaves c s d q is i js h on) r t e) [
      | inl same ↦ absurd (true≢false (sym same.0 ∙ acts))
      | inr y ↦ y.1
    ]

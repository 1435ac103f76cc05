-- A delivery on an item of a queue, kind by kind: it changes nothing, or the queue's walk settles the queue.
use Rattle.std.proofs.Common.{◌≡◌, ℕ, ◌+◌, Bool, true, false, not, ◌&&◌, ◌||◌, cond, Option, Some, None, List, []}
use Rattle.std.proofs.Common.{◌∷◌, ◌++◌, map, length, inl, inr, refl, sym, ap, ◌∙◌, subst, true≢false}
use Rattle.std.specs.Prelude.{◌==◌, find, option_map}
use Rattle.std.specs.Option.{option_map_or}
use Rattle.std.specs.List.{AllPass}
use Rattle.std.proofs.lemmas.Bool.{eqb-true, eq-eqb}
use Rattle.gate_types.specs.declared.records.Build.{Build}
use Rattle.gate_types.specs.declared.records.Verdict.TheVariants as verdict
use Rattle.gate_types.specs.declared.deliveries.Delivery.{Delivery}
use Rattle.gate_types.specs.declared.deliveries.Delivery.TheVariants as delivery
use Rattle.gate_types.specs.declared.deliveries.Ending.{Ending}
use Rattle.gate_types.specs.Names.{same_name}
use Rattle.gate_types.specs.Settings.{Settings, are_distinct}
use Rattle.gate_types.specs.State.{Item, Queue, State, has_change}
use Rattle.gate_types.specs.Slot.{is_wanted}
use Rattle.gate_types.specs.Line.{Place}
use Rattle.gate_types.specs.Standing.{is_failing, with_ahead, next_ahead, ahead_of, place_of, all_places}
use Rattle.gate_types.specs.Rebase.{rebase}
use Rattle.gate_types.specs.Window.{bounds_of}
use Rattle.gate_types.specs.Sweep.{sweep}
use Rattle.gate_types.specs.SubmitOrder.{Order, shown_order}
use Rattle.gate_types.specs.Step.{raw_step, left_queue, leave, revised, shrunk_queue, landed_queue, end_build}
use Rattle.gate_types.specs.Step.{raw_revision, raw_withdrawn, raw_closed, raw_landed, raw_refused, raw_result}
use Rattle.gate_types.specs.Lawful.{IsSound}
use Rattle.gate_laws.specs.Touch.{has_serial, queue_of_change, queue_of_serial, touched_by, settle_touched, settle_one, is_on}
use Rattle.gate_walk.specs.Rescan.{live_builds_are_wanted, IsCalm, HasLeft, TakenOut, rows_with, Walks, walk_start, stored}
use Rattle.gate_walk.specs.Rescan.{ahead_at, fails_at, without_row, rows_from, row_seen}
use Rattle.gate_walk.specs.Kinds.{IsIn}
use Rattle.gate_walk.specs.Delivery.{build_ended, item_left, item_landed, moved, touch_of, out_by}
use Rattle.gate_walk.specs.Delivery.{standing_rows, WalksFrom, TouchedQueueIsWalked, AWalkIsEnough}
use Rattle.gate_queue_rules.specs.Settled.{swept_of}
use Rattle.gate_laws.proofs.Members.{every, all, to_map, to_right, found, not_found, any_to, all_to, in_contains}
use Rattle.gate_laws.proofs.Parts.{ItemsRise}
use Rattle.gate_types.proofs.DistinctLemmas.{names_differ}
use Rattle.gate_laws.proofs.Alone.{serial_alone}
use Rattle.gate_laws.proofs.EachAccepted.{closed_state, new_revision, landed_state, refused_state}
use Rattle.gate_walk.proofs.EachReply.{OnReply, on_reply, withdrawn_reply, closed_reply, revision_reply, landed_reply}
use Rattle.gate_walk.proofs.EachReply.{refused_reply, result_reply}
use Rattle.gate_walk.proofs.TouchedQueue.{has_touched}
use Rattle.gate_laws.proofs.SettledIsAtRest.{settled_is_at_rest}
use Rattle.gate_laws.proofs.Idle.{IsIdle, idle}
use Rattle.gate_laws.proofs.Touches.{serials_apart, changes_apart, name_itself}
use Rattle.gate_laws.proofs.ShownOrders.{order_from}
use Rattle.gate_laws.proofs.OrderFacts.{shows}
use Rattle.gate_laws.proofs.OrderTouches.{order_queue, order_item}
use Rattle.gate_laws.proofs.OnlyOneQueueIsTouched.{only_one_queue_is_touched}
use Rattle.gate_laws.proofs.OtherQueuesStay.{other_queues_stay}
use Rattle.gate_laws.proofs.RunIsLawful.{raw_step_is_sound}
use Rattle.gate_laws.proofs.Places.{ahead_end}
use Rattle.gate_walk.proofs.Passes.{cast}
use Rattle.gate_walk.proofs.OneQueue.{rows_split}
use Rattle.gate_walk.proofs.Calm.{higher_behind}
use Rattle.gate_walk.proofs.StoredRows.{parted}
use Rattle.gate_walk.proofs.Touching.{around, walk_after_build, walk_after_leaving, walk_after_landing}
use Rattle.gate_walk.proofs.Leaving.{items_leave}
use Rattle.gate_types.specs.Rows.{fold_edits}
use Rattle.gate_types.specs.Rising.{In}
use Rattle.gate_queue_rules.proofs.Ordered.{rises, items_rise}
use Rattle.gate_walk.proofs.Visits.{stored_rise, standing_rise, seen_increase, visited_is_walked}
use Rattle.gate_walk.proofs.Swept.{only_named, settled_within}

-- ---- a lawful state is at rest

pub calm : (c : Settings) (s : State) → IsIdle c s → IsCalm c s
calm c s h = record {
  stays = h.stays;
  builds_wanted = all (λ p. live_builds_are_wanted s.builds p ≡ true) (all_places c s)
      (λ p m. all_to (λ b. not (b.live && b.serial == p.item.serial) || is_wanted s.builds p b) s.builds
      (every (λ b. not (b.live && b.serial == p.item.serial) || is_wanted s.builds p b ≡ true) s.builds
      (every (λ (x : Place). AllPass (λ b. not (b.live && b.serial == x.item.serial) || is_wanted s.builds x b) s.builds) (all_places c s) h.builds_wanted p m)));
}

-- ---- the item's queue is the touched one

find_only : (test : Queue → Bool) (qs : List Queue) (q : Queue) → In q qs → test q ≡ true → ((x : Queue) → In x qs → test x ≡ true → x ≡ q) → find test qs ≡ Some q
find_only test qs q m t one = by_first (find test qs) refl
  where
    by_first : (f : Option Queue) → find test qs ≡ f → f ≡ Some q
    by_first None e = absurd (true≢false (sym t ∙ not_found test qs e q m))
    by_first (Some x) e = let there = found test qs x e in ap Some (one x there.0 there.1)

queue_in : (c : Settings) (s : State) (q : Queue) (is : List Item) (i : Item) (js : List Item) → IsIn c s q is i js → In q s.queues
queue_in c s q is i js h = subst (In q) (sym h.queues) (to_right h.before (q ∷ h.after) q (inl refl))

item_in : (c : Settings) (s : State) (q : Queue) (is : List Item) (i : Item) (js : List Item) → IsIn c s q is i js → In i q.items
item_in c s q is i js h = subst (In i) (sym h.items) (to_right is (i ∷ js) i (inl refl))

change_touched : (c : Settings) (s : State) → IsSound c s → (q : Queue) (i : Item) → In q s.queues → In i q.items → queue_of_change s i.change ≡ Some q.name
change_touched c s sound q i mq mi =
    let own = any_to (λ (j : Item). j.change == i.change) q.items i mi (eq-eqb i.change i.change refl) in
    ap (option_map (λ (x : Queue). x.name)) (find_only (λ x. has_change x.items i.change) s.queues q mq own (λ x mx hx. changes_apart c s sound i.change x q mx mq hx own))

serial_touched : (c : Settings) (s : State) → IsSound c s → (q : Queue) (i : Item) → In q s.queues → In i q.items → queue_of_serial s i.serial ≡ Some q.name
serial_touched c s sound q i mq mi =
    let own = any_to (λ (j : Item). j.serial == i.serial) q.items i mi (eq-eqb i.serial i.serial refl) in
    ap (option_map (λ (x : Queue). x.name)) (find_only (λ x. has_serial x.items i.serial) s.queues q mq own (λ x mx hx. serials_apart c s sound i.serial x q mx mq hx own))

-- a shown order of the item's number is of the item
pub order_is : (c : Settings) (s : State) (n : ℕ) (o : Order) → IsSound c s → shown_order c s n ≡ Some o → (q : Queue) (i : Item) → In q s.queues → In i q.items → i.serial == n ≡ true → o ≡ record { queue = q; item = i }
order_is c s n o sound e q i mq mi on =
    let f = order_from c s n o e in
    let alone = serial_alone c s sound o.queue q o.item i (order_queue c s o f.0) mq (order_item c s o f.0) mi (eqb-true o.item.serial n f.1 ∙ sym (eqb-true i.serial n on)) in
    λ k. record { queue = alone.0 k; item = alone.1 k }

-- ---- what a delivery comes to

-- the touched queue's walk, in what the delivery leaves
record WalksAt (c : Settings) (s : State) (d : Delivery) (q : Queue) (i : Item) (t : State) : Type 0 where
  touched : touched_by c s d ≡ Some q.name
  there : In (moved c d q i) t.queues
  walks : WalksFrom c s t q (moved c d q i) i (touch_of d)

leaves : (c : Settings) (s t : State) (q o : Queue) (is : List Item) (i : Item) (js : List Item) → IsIn c s q is i js → IsCalm c s → HasLeft c s t q o i (is ++ js) → WalksFrom c s t q o i item_left
leaves c s t q o is i js h rest l = walk_after_leaving c s t h.before h.after q o is js i (bounds_of c o) h.sound rest h.queues h.items l

-- ---- deliveries of the item's change

withdrawn_done : (c : Settings) (s : State) (n r : ℕ) (q : Queue) (is : List Item) (i : Item) (js : List Item) → IsIn c s q is i js → IsCalm c s → i.change == n ≡ true → OnReply s (WalksAt c s (delivery.Withdrawn n r) q i) (raw_withdrawn c s n r)
withdrawn_done c s n r q is i js h rest on =
    let mq = queue_in c s q is i js h in
    let mi = item_in c s q is i js h in
    withdrawn_reply (WalksAt c s (delivery.Withdrawn n r) q i) c s n r
    (subst (λ m. WalksAt c s (delivery.Withdrawn m r) q i (leave verdict.Withdrawn m s)) (eqb-true i.change n on) (record {
      touched = change_touched c s h.sound q i mq mi;
      there = to_map (left_queue verdict.Withdrawn i.change) s.queues q mq;
      walks = leaves c s (leave verdict.Withdrawn i.change s) q (left_queue verdict.Withdrawn i.change q) is i js h rest (items_leave.withdrawn c s q is i js h);
    }))
    (λ away. absurd (true≢false (sym (any_to (λ (x : Queue). has_change x.items n) s.queues q mq (any_to (λ (j : Item). j.change == n) q.items i mi on)) ∙ away)))

closed_done : (c : Settings) (s : State) (n r : ℕ) (q : Queue) (is : List Item) (i : Item) (js : List Item) → IsIn c s q is i js → IsCalm c s → i.change == n ≡ true → OnReply s (WalksAt c s (delivery.Closed n r) q i) (raw_closed c s n r)
closed_done c s n r q is i js h rest on =
    let mq = queue_in c s q is i js h in
    let mi = item_in c s q is i js h in
    closed_reply (WalksAt c s (delivery.Closed n r) q i) c s n r
    (subst (λ m. WalksAt c s (delivery.Closed m r) q i (closed_state m s)) (eqb-true i.change n on) (record {
      touched = change_touched c s h.sound q i mq mi;
      there = to_map (left_queue verdict.Closed i.change) s.queues q mq;
      walks = leaves c s (closed_state i.change s) q (left_queue verdict.Closed i.change q) is i js h rest (items_leave.closed c s q is i js h);
    }))

revision_done : (c : Settings) (s : State) (n : ℕ) (name : List ℕ) (r : ℕ) (message : List ℕ) (q : Queue) (is : List Item) (i : Item) (js : List Item) → IsIn c s q is i js → IsCalm c s → i.change == n ≡ true →
    OnReply s (WalksAt c s (delivery.Revision n name r message) q i) (raw_revision c s n name r message)
revision_done c s n name r message q is i js h rest on =
    let mq = queue_in c s q is i js h in
    let mi = item_in c s q is i js h in
    revision_reply (WalksAt c s (delivery.Revision n name r message) q i) c s n name r message
    (subst (λ m. WalksAt c s (delivery.Revision m name r message) q i (revised (new_revision c m name r message) s)) (eqb-true i.change n on) (record {
      touched = change_touched c s h.sound q i mq mi;
      there = to_map (left_queue verdict.Superseded i.change) s.queues q mq;
      walks = leaves c s (revised (new_revision c i.change name r message) s) q (left_queue verdict.Superseded i.change q) is i js h rest
          (items_leave.superseded c s q is i js (new_revision c i.change name r message) h refl refl);
    }))

-- ---- answers to the item's order

refused_done : (c : Settings) (s : State) (n : ℕ) (q : Queue) (is : List Item) (i : Item) (js : List Item) → IsIn c s q is i js → IsCalm c s → i.serial == n ≡ true → OnReply s (WalksAt c s (delivery.Refused n) q i) (raw_refused c s n)
refused_done c s n q is i js h rest on =
    let mq = queue_in c s q is i js h in
    let mi = item_in c s q is i js h in
    refused_reply (WalksAt c s (delivery.Refused n) q i) c s n
    (λ o e. subst (λ (y : Order). shown_order c s n ≡ Some y → WalksAt c s (delivery.Refused n) q i (refused_state c y s)) (sym (order_is c s n o h.sound e q i mq mi on)) (λ f. record {
      touched = ap (option_map (λ (y : Order). y.queue.name)) f;
      there = subst (λ t. In (cond t (shrunk_queue c (left_queue verdict.Refused i.change q)) (left_queue verdict.Refused i.change q)) (refused_state c (record { queue = q; item = i }) s).queues) (name_itself q.name)
          (to_map (λ x. cond (same_name x.name q.name) (shrunk_queue c x) x) (map (left_queue verdict.Refused i.change) s.queues) (left_queue verdict.Refused i.change q) (to_map (left_queue verdict.Refused i.change) s.queues q mq));
      walks = leaves c s (refused_state c (record { queue = q; item = i }) s) q (shrunk_queue c (left_queue verdict.Refused i.change q)) is i js h rest (items_leave.refused c s q is i js h);
    }) e)

-- behind failing items alone, nothing is ahead
none_ahead : (c : Settings) (s : State) (q : Queue) (is : List Item) → ((j : Item) → In j is → is_failing s.builds (place_of c s q j) ≡ true) → ahead_end s.builds [] (map (place_of c s q) is) ≡ []
none_ahead c s q [] h = refl
none_ahead c s q (j ∷ js) h =
    ap (λ t. ahead_end s.builds (cond t [] (j ∷ [])) (map (place_of c s q) js)) (h j (inl refl)) ∙ none_ahead c s q js (λ x m. h x (inr m))

-- the item of a shown order is the first that isn't failing, by its row
first_row : (c : Settings) (s : State) (n : ℕ) (q : Queue) (is : List Item) (i : Item) (js : List Item) → IsIn c s q is i js → IsCalm c s → shown_order c s n ≡ Some (record { queue = q; item = i }) →
    (ahead_at i.serial (stored c s q) ≡ None) × (fails_at i.serial (stored c s q) ≡ false)
first_row c s n q is i js h rest e =
    let x = shows c s n (record { queue = q; item = i }) e in
    let a = around c s h.before h.after q x.before x.after i h.sound rest h.queues x.split in
    let bs = s.builds in
    let front = map (place_of c s q) x.before in
    let p = place_of c s q i in
    let behind = map (place_of c s q) x.after in
    let none = none_ahead c s q x.before x.fail in
    let was = next_ahead bs (with_ahead (ahead_end bs [] front) p) in
    let rows = a.rows ∙ rows_split bs [] front (p ∷ behind) in
    let pt = parted bs front p behind was a.rise (higher_behind 0 front p behind a.rise) in (
      ap (ahead_at i.serial) rows ∙ pt.ahead ∙ ap (λ l. ahead_of (with_ahead l p)) none,
      ap (fails_at i.serial) rows ∙ pt.fails ∙ ap (λ l. is_failing bs (with_ahead l p)) none ∙ x.free,
    )

-- a walk that was told so by the row begins as one that is told what the row is
at_first : (c : Settings) (s t : State) (q o : Queue) (i : Item) → ahead_at i.serial (stored c s q) ≡ None → fails_at i.serial (stored c s q) ≡ false →
    (let left = without_row i.serial (stored c s q) in let out : TakenOut = record { change = i.change; failing = false; landed = true } in
    Walks (bounds_of c o) o left t.builds (map (place_of c t o) o.items) (walk_start (Some out) None (length o.reports) o.window) (row_seen c t left) (rows_from i.serial left)) → WalksFrom c s t q o i item_landed
at_first c s t q o i first passes h =
    let left = without_row i.serial (stored c s q) in
    cast (λ k. let out : TakenOut = record { change = i.change; failing = sym passes k; landed = true } in
    Walks (bounds_of c o) o left t.builds (map (place_of c t o) o.items) (walk_start (Some out) (sym first k) (length o.reports) o.window) (row_seen c t left) (rows_from i.serial left)) h

landed_done : (c : Settings) (s : State) (n : ℕ) (q : Queue) (is : List Item) (i : Item) (js : List Item) → IsIn c s q is i js → IsCalm c s → i.serial == n ≡ true → OnReply s (WalksAt c s (delivery.Landed n) q i) (raw_landed c s n)
landed_done c s n q is i js h rest on =
    let mq = queue_in c s q is i js h in
    let mi = item_in c s q is i js h in
    let v = verdict.Landed (length q.landings + 1) in
    let mine : Order = record { queue = q; item = i } in
    let o = landed_queue c i (left_queue v i.change q) in
    landed_reply (WalksAt c s (delivery.Landed n) q i) c s n
    (λ x e. subst (λ (y : Order). shown_order c s n ≡ Some y → WalksAt c s (delivery.Landed n) q i (landed_state c y s)) (sym (order_is c s n x h.sound e q i mq mi on)) (λ f. record {
      touched = ap (option_map (λ (y : Order). y.queue.name)) f;
      there = subst (λ t. In (cond t (landed_queue c i (left_queue v i.change q)) (left_queue v i.change q)) (landed_state c mine s).queues) (name_itself q.name)
          (to_map (λ z. cond (same_name z.name q.name) (landed_queue c i z) z) (map (left_queue v i.change) s.queues) (left_queue v i.change q) (to_map (left_queue v i.change) s.queues q mq));
      walks = lands f;
    }) e)
  where
    lands : shown_order c s n ≡ Some (record { queue = q; item = i }) →
        WalksFrom c s (landed_state c (record { queue = q; item = i }) s) q (landed_queue c i (left_queue (verdict.Landed (length q.landings + 1)) i.change q)) i item_landed
    lands f =
        let first = first_row c s n q is i js h rest f in
        let t = landed_state c (record { queue = q; item = i }) s in
        let o = landed_queue c i (left_queue (verdict.Landed (length q.landings + 1)) i.change q) in
        at_first c s t q o i first.0 first.1
        (walk_after_landing c s t h.before h.after q o is js i (bounds_of c o) h.sound rest h.queues h.items (items_leave.landed c s q is i js (length q.landings + 1) h) first.0 first.1)

-- ---- the end of a build of the item

result_done : (c : Settings) (s : State) (n : ℕ) (e : Ending) (q : Queue) (is : List Item) (i : Item) (js : List Item) → IsIn c s q is i js → IsCalm c s → is_on s (delivery.Result n e) i ≡ true → OnReply s (WalksAt c s (delivery.Result n e) q i) (raw_result s n e)
result_done c s n e q is i js h rest on =
    let mq = queue_in c s q is i js h in
    let mi = item_in c s q is i js h in
    result_reply (WalksAt c s (delivery.Result n e) q i) s n e
    (λ a known live.
    let there = found (λ (x : Build). x.number == n) s.builds a known in
    let own : a.serial ≡ i.serial = eqb-true a.serial i.serial (sym (ap (λ o. option_map_or (λ (b : Build). b.serial == i.serial) o false) known) ∙ on) in
    record {
      touched = ap (λ o. option_map_or (λ (b : Build). queue_of_serial s b.serial) o None) known ∙ ap (queue_of_serial s) own ∙ serial_touched c s h.sound q i mq mi;
      there = mq;
      walks = subst (λ m. WalksFrom c s (end_build e m s) q q i build_ended) (eqb-true a.number n there.1)
          (walk_after_build c s h.before h.after q is js i a e (bounds_of c q) h.sound rest h.queues h.items (in_contains s.builds a there.0) live own);
    })

-- ---- all of them

each_done : (c : Settings) (s : State) (d : Delivery) (q : Queue) (is : List Item) (i : Item) (js : List Item) → IsIn c s q is i js → IsCalm c s → is_on s d i ≡ true → OnReply s (WalksAt c s d q i) (raw_step c s d)
each_done c s (delivery.Revision n name r message) q is i js h rest on = revision_done c s n name r message q is i js h rest on
each_done c s (delivery.Approved n r) q is i js h rest on = absurd (true≢false (sym on))
each_done c s (delivery.Withdrawn n r) q is i js h rest on = withdrawn_done c s n r q is i js h rest on
each_done c s (delivery.Closed n r) q is i js h rest on = closed_done c s n r q is i js h rest on
each_done c s (delivery.Landed n) q is i js h rest on = landed_done c s n q is i js h rest on
each_done c s (delivery.Refused n) q is i js h rest on = refused_done c s n q is i js h rest on
each_done c s (delivery.Take worker) q is i js h rest on = absurd (true≢false (sym on))
each_done c s (delivery.Result n e) q is i js h rest on = result_done c s n e q is i js h rest on

moved_name : (c : Settings) (d : Delivery) (q : Queue) (i : Item) → (moved c d q i).name ≡ q.name
moved_name c (delivery.Revision n name r message) q i = refl
moved_name c (delivery.Approved n r) q i = refl
moved_name c (delivery.Withdrawn n r) q i = refl
moved_name c (delivery.Closed n r) q i = refl
moved_name c (delivery.Landed n) q i = refl
moved_name c (delivery.Refused n) q i = refl
moved_name c (delivery.Take worker) q i = refl
moved_name c (delivery.Result n e) q i = refl

pub touched_queue_is_walked : TouchedQueueIsWalked
touched_queue_is_walked c s d r t qs q rs is i js w lawful e eq ei on =
    let h : IsIn c s q is i js = record { sound = lawful.sound; before = qs; after = rs; queues = eq; items = ei } in
    elim (on_reply s (WalksAt c s d q i) (raw_step c s d) (each_done c s d q is i js h (calm c s (idle c s lawful)) on) r t e) [
      | inl same ↦ inl same
      | inr y ↦ inr (
        y.0,
        let x = y.1 in
            let o = moved c d q i in
            let sound = raw_step_is_sound c s d r t w lawful e in
            let distinct = subst (λ l. are_distinct l ≡ true) (sym sound.queues_are_set) (names_differ c w) in
            let alone : sweep c (rebase c t) ≡ settle_one o.name c t =
            only_one_queue_is_touched c s d r t lawful e ∙ ap (λ z. settle_touched z c t) (x.touched ∙ ap Some (sym (moved_name c d q i))) in
            let rows = stored c s q in
            let k = touch_of d in
            let left = standing_rows k i rows in
            let began = walk_start (out_by k i rows) (ahead_at i.serial rows) (length o.reports) o.window in
            let rise = standing_rise k i rows (stored_rise c s q (items_rise c s q q.items 0 (rises (λ (j : Item). j.serial) q.items (every ItemsRise s.queues lawful.sound.items_rise q (queue_in c s q is i js h))))) in
            let settles = x.walks.at_stop ∙ settled_within c t o x.there (every ItemsRise t.queues sound.items_rise o x.there) (only_named t.queues distinct o x.there) alone in
            record {
              touched = x.touched;
              there = in_contains t.queues o x.there;
              walks = x.walks;
              swept = in_contains (sweep c (rebase c t)).queues (swept_of c t o) (to_map (swept_of c t) t.queues o x.there);
              rise = seen_increase c t left rise;
              settles = settles;
              visits_settle = ap (fold_edits (rows_with o left t.builds)) (visited_is_walked c t o.name (bounds_of c o) i.serial began left rise) ∙ settles;
            },
      )
    ]

pub a_walk_is_enough : AWalkIsEnough
a_walk_is_enough = record {
  touched = touched_queue_is_walked;
  has_touched = has_touched;
  others = other_queues_stay;
  untouched = λ c s d r t lawful e none. only_one_queue_is_touched c s d r t lawful e ∙ ap (λ y. settle_touched y c t) none;
  unchanged = λ c s lawful. let a = settled_is_at_rest.left_alone c s lawful.settled in ap (sweep c) a.rebased ∙ a.swept;
}

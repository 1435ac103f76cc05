-- A change gives up its place, if it has one: what that leaves, and what it touches.
use Rattle.std.proofs.Common.{◌≡◌, ℕ, Bool, true, false, not, ◌&&◌, cond, Option, Some, None, List, [], ◌∷◌, map, refl}
use Rattle.std.proofs.Common.{sym, ap, ◌∙◌, true≢false}
use Rattle.std.specs.Prelude.{◌==◌, find, is_some, option_map}
use Rattle.std.specs.List.{list_any}
use Rattle.std.proofs.lemmas.Bool.{or_parts, eq-eqb}
use Rattle.std.proofs.lemmas.List.{map-id}
use Rattle.gate_types.specs.declared.records.Verdict.{Verdict}
use Rattle.gate_types.specs.declared.deliveries.Delivery.{Delivery}
use Rattle.gate_types.specs.declared.edits.Edit.{Edit}
use Rattle.gate_types.specs.Settings.{Settings}
use Rattle.gate_types.specs.State.{Item, Queue, State, has_change, is_queued}
use Rattle.gate_types.specs.Slot.{is_running}
use Rattle.gate_types.specs.SubmitOrder.{is_submitting}
use Rattle.gate_types.specs.Rebase.{with_live}
use Rattle.gate_types.specs.Sweep.{without_plans}
use Rattle.gate_types.specs.Rows.{item_of}
use Rattle.gate_types.specs.Step.{left_queue, leave}
use Rattle.gate_types.specs.Once.{Content}
use Rattle.gate_types.specs.Tables.{fold_all}
use Rattle.gate_types.specs.Rising.{In}
use Rattle.gate_laws.specs.Touch.{queue_of_change, touched_by, is_on}
use Rattle.gate_laws.proofs.Tests.{and_true, not_and_false}
use Rattle.gate_laws.proofs.Members.{map_same, none_from, none_to}
use Rattle.gate_laws.proofs.Plans.{plans_all_stay}
use Rattle.gate_laws.proofs.LeaveIsSound.{leaving}
use Rattle.gate_laws.proofs.LeaveTouches.{left_same}
use Rattle.gate_reads.specs.Moves.{tables_by, in_state, Moves}
use Rattle.gate_reads.specs.Touches.{event_of, Touches}
use Rattle.gate_reads.specs.declared.touched.Event.TheVariants as event
use Rattle.gate_reads.specs.declared.touched.TouchedItem.{TouchedItem}
use Rattle.gate_reads.specs.Stands.{QueuesSo}
use Rattle.gate_reads.specs.declared.stands.LiveItem.{LiveItem}
use Rattle.gate_reads.specs.declared.stands.QueuePlace.{QueuePlace}
use Rattle.gate_reads.specs.declared.stands.QueuePlace.TheVariants as place
use Rattle.gate_ruling.specs.Leaving.{GivesUp, is_submitting_at}

-- a change in no queue leaves nothing
pub leaves_nothing : (v : Verdict) (n : ℕ) (s : State) → is_queued s n ≡ false → leave v n s ≡ s
leaves_nothing v n s h = λ k. record s { queues = queues k; plans = plans k; builds = builds k }
  where
    away : (q : Queue) → In q s.queues → has_change q.items n ≡ false
    away = none_from (λ q. has_change q.items n) s.queues h

    queues : map (left_queue v n) s.queues ≡ s.queues
    queues = map_same (left_queue v n) (λ q. q) s.queues (λ q m. left_same v n q (away q m)) ∙ map-id s.queues

    and_first : (a b : Bool) → a ≡ false → a && b ≡ false
    and_first true b e = absurd (true≢false e)
    and_first false b e = refl

    nobody : (serial : ℕ) → leaving n s serial ≡ false
    nobody serial =
        none_to (λ q. list_any (λ i. i.change == n && i.serial == serial) q.items) s.queues (λ q m.
        none_to (λ i. i.change == n && i.serial == serial) q.items (λ i mi.
        and_first (i.change == n) (i.serial == serial) (none_from (λ i. i.change == n) q.items (away q m) i mi)))

    plans : without_plans (leaving n s) s.plans ≡ s.plans
    plans = plans_all_stay s.plans (leaving n s) nobody

    builds : map (λ b. with_live (b.live && not (is_running b.outcome && leaving n s b.serial)) b) s.builds ≡ s.builds
    builds =
        map_same (λ b. with_live (b.live && not (is_running b.outcome && leaving n s b.serial)) b) (λ b. b) s.builds
        (λ b m. ap (λ t. with_live (b.live && not (is_running b.outcome && t)) b) (nobody b.serial)
        ∙ ap (λ t. with_live (b.live && t) b) (not_and_false (is_running b.outcome))
        ∙ ap (λ t. with_live t b) (and_true b.live))
        ∙ map-id s.builds

-- so no edits are wanted
pub nothing_moves : (x : Content) (v : Verdict) (n : ℕ) (edits : List Edit) → edits ≡ [] → is_queued x.state n ≡ false →
    Moves x edits (leave v n x.state)
nothing_moves x v n edits none h =
    λ columns. ap (fold_all (tables_by columns x)) none
    ∙ ap (λ u. tables_by columns (in_state x u)) (sym (leaves_nothing v n x.state h))

-- whether an order for a change is shown, by where it stands
pub submitting_so : (c : Settings) (s : State) (n : ℕ) (at : QueuePlace) → QueuesSo c s n at →
    is_submitting c s n ≡ is_submitting_at at
submitting_so c s n place.Submitting so = so
submitting_so c s n (place.Item k) so = so.0
submitting_so c s n place.Outside so = so.0

-- a change that is no item is in no queue, where no order for it is shown
pub unqueued : (c : Settings) (s : State) (n : ℕ) (at : QueuePlace) → ((k : LiveItem) → at ≡ place.Item k → ⊥) →
    QueuesSo c s n at → is_submitting c s n ≡ false → is_queued s n ≡ false
unqueued c s n place.Submitting h so free = absurd (true≢false (sym so ∙ free))
unqueued c s n (place.Item k) h so free = absurd (h k refl)
unqueued c s n place.Outside h so free = so.1

-- what passes no test isn't found
not_found : {X : Type 0} (test : X → Bool) (xs : List X) → list_any test xs ≡ false → find test xs ≡ None
not_found test [] e = refl
not_found test (x ∷ xs) e =
    let both = or_parts (test x) (list_any test xs) e in
    ap (λ b. cond b (Some x) (find test xs)) both.0 ∙ not_found test xs both.1

pub in_no_queue : (s : State) (n : ℕ) → is_queued s n ≡ false → queue_of_change s n ≡ None
in_no_queue s n e = ap (option_map (λ q. q.name)) (not_found (λ q. has_change q.items n) s.queues e)

-- a place was given up just where the change was queued
pub queued_by : (c : Settings) (s : State) (n : ℕ) (v : Verdict) (touched : Option TouchedItem) →
    GivesUp c s n v touched → is_some touched ≡ is_queued s n
queued_by c s n v (Some k) h = sym h.row.queued
queued_by c s n v None h = sym h

-- what is touched, of a delivery that is about the change
pub given_up : (c : Settings) (s : State) (d : Delivery) (n : ℕ) (v : Verdict) (touched : Option TouchedItem) →
    GivesUp c s n v touched → touched_by c s d ≡ queue_of_change s n → event_of d ≡ Some (event.Left v) →
    ((i : Item) → is_on s d i ≡ (i.change == n)) → Touches c s d touched
given_up c s d n v (Some k) h queue befell on = record {
  queue = queue ∙ h.row.queue;
  there = h.row.stored;
  on = on (item_of k.item) ∙ eq-eqb k.item.change n h.row.change;
  event = befell ∙ ap (λ w. Some w) (sym h.event);
  figures = h.figures;
}
given_up c s d n v None h queue befell on = queue ∙ in_no_queue s n h

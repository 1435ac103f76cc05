-- What a walk does after a delivery: it leaves of the touched queue what a rebase and then a sweep of the whole state
-- leave.
use Rattle.std.specs.Prelude.{ℕ, true, false, ◌+◌, ◌≡◌, List, [], ◌∷◌, ◌++◌, map, length, Option, Some}
use Rattle.std.specs.Prelude.{None, find, nat_le, Contains, ◌⊎◌}
use Rattle.gate_types.specs.declared.records.Item.{Item as ItemRow}
use Rattle.gate_types.specs.declared.records.Verdict.TheVariants as verdict
use Rattle.gate_types.specs.declared.deliveries.Delivery.{Delivery}
use Rattle.gate_types.specs.declared.deliveries.Delivery.TheVariants as delivery
use Rattle.gate_types.specs.declared.deliveries.Reply.{Reply}
use Rattle.gate_types.specs.Settings.{Settings, are_sound}
use Rattle.gate_types.specs.State.{Item, Queue, State}
use Rattle.gate_types.specs.Standing.{place_of}
use Rattle.gate_types.specs.Rebase.{rebase}
use Rattle.gate_types.specs.Window.{Bounds, bounds_of}
use Rattle.gate_types.specs.Sweep.{sweep}
use Rattle.gate_types.specs.Step.{accepted, raw_step, left_queue, landed_queue, shrunk_queue}
use Rattle.gate_types.specs.Lawful.{IsLawful}
use Rattle.gate_types.specs.Rows.{fold_edits}
use Rattle.gate_laws.specs.Touch.{touched_by, is_on, is_stale, OtherQueuesStay}
use Rattle.std.specs.List.Sorted.{IsStrictlyIncreasing}
use Rattle.gate_types.specs.declared.edits.Edit.{Edit}
use Rattle.gate_queue_rules.specs.Settled.{swept_of, rows_in}
use Rattle.gate_walk.specs.Walk.{Seen, Carry, visit_edits, carried, walk_from}
use Rattle.gate_walk.specs.Next.{next_of, visits_from}
use Rattle.gate_walk.specs.Rescan.{TakenOut, Walks, walk_start, stored, without_row, rows_from, rows_with, row_seen}
use Rattle.gate_walk.specs.Rescan.{ahead_at, fails_at}

-- ---- a queue after a delivery

-- the touched queue before settling, by the touched item
abbrev pub moved : Settings → Delivery → Queue → Item → Queue
moved c (delivery.Revision n name r message) q i = left_queue verdict.Superseded i.change q
moved c (delivery.Approved n r) q i = q
moved c (delivery.Withdrawn n r) q i = left_queue verdict.Withdrawn i.change q
moved c (delivery.Closed n r) q i = left_queue verdict.Closed i.change q
moved c (delivery.Landed number) q i = landed_queue c i (left_queue (verdict.Landed (length q.landings + 1)) i.change q)
moved c (delivery.Refused number) q i = shrunk_queue c (left_queue verdict.Refused i.change q)
moved c (delivery.Take worker) q i = q
moved c (delivery.Result n e) q i = q

-- ---- the touched item

-- a build of it ended, or it left, or it landed
pub data Touch : Type 0 where
  build_ended : Touch
  item_left : Touch
  item_landed : Touch

-- which of these a delivery does
abbrev pub touch_of : Delivery → Touch
touch_of (delivery.Result n e) = build_ended
touch_of (delivery.Landed number) = item_landed
touch_of _ = item_left

-- what the walk is told was taken out, read off the stored rows
abbrev pub out_by : Touch → Item → List ItemRow → Option TakenOut
out_by build_ended i rows = None
out_by item_left i rows = Some (record { change = i.change; failing = fails_at i.serial rows; landed = false })
out_by item_landed i rows = Some (record { change = i.change; failing = fails_at i.serial rows; landed = true })

-- the stored rows of the items that still stand
abbrev pub standing_rows : Touch → Item → List ItemRow → List ItemRow
standing_rows build_ended i rows = rows
standing_rows item_left i rows = without_row i.serial rows
standing_rows item_landed i rows = without_row i.serial rows

-- ---- the walk

-- what it begins with, by the stored rows
abbrev pub begins : Queue → Item → Touch → List ItemRow → Carry
begins o i k rows = walk_start (out_by k i rows) (ahead_at i.serial rows) (length o.reports) o.window

-- it begins at the touched item, or behind it where it was taken out; its rows are those stored before the delivery
abbrev pub WalksFrom : Settings → State → State → Queue → Queue → Item → Touch → Type 0
WalksFrom c s t q o i k = (let rows = stored c s q in let left = standing_rows k i rows in
    Walks (bounds_of c o) o left t.builds (map (place_of c t o) o.items) (begins o i k rows) (row_seen c t left)
    (rows_from i.serial left))

-- its edits, folded over the stored rows, are the queue's rows after a rebase and then a sweep of the whole state
abbrev pub WalkSettles : Settings → State → State → Queue → Queue → Item → Touch → Type 0
WalkSettles c s t q o i k = (let rows = stored c s q in let left = standing_rows k i rows in
    fold_edits (rows_with o left t.builds)
    (walk_from o.name (bounds_of c o) (begins o i k rows) (map (row_seen c t left) (rows_from i.serial left)))
    ≡ rows_in c (sweep c (rebase c t)) (swept_of c t o))

-- the edits of the visits of a walk over a queue's rows: of the first row from a serial on, then of each row that is
-- wanted, up to the stop
abbrev pub visited : List ℕ → Bounds → Carry → ℕ → List Seen → List Edit
visited name bounds k n vs = elim (find (λ v. nat_le n v.row.serial) vs) [
  | None ↦ []
  | Some v ↦ visit_edits name bounds k v ++
      visits_from (length vs) name bounds (next_of (carried bounds k v) v.row.serial) (carried bounds k v) vs
]

-- the same of these edits
abbrev pub VisitsSettle : Settings → State → State → Queue → Queue → Item → Touch → Type 0
VisitsSettle c s t q o i k = (let rows = stored c s q in let left = standing_rows k i rows in
    fold_edits (rows_with o left t.builds)
    (visited o.name (bounds_of c o) (begins o i k rows) i.serial (map (row_seen c t left) left))
    ≡ rows_in c (sweep c (rebase c t)) (swept_of c t o))

-- the queue of the touched item is there once the delivery is done, is there once all is settled, and its walk
-- settles it
pub record IsWalked (c : Settings) (s : State) (d : Delivery) (t : State) (q : Queue) (i : Item) : Type 0 where
  pub touched : touched_by c s d ≡ Some q.name
  pub there : Contains t.queues (moved c d q i)
  pub walks : WalksFrom c s t q (moved c d q i) i (touch_of d)
  pub swept : Contains (sweep c (rebase c t)).queues (swept_of c t (moved c d q i))
  pub rise : (let left = standing_rows (touch_of d) i (stored c s q) in
      IsStrictlyIncreasing (map (λ x. x.row.serial) (map (row_seen c t left) left)))
  pub settles : WalkSettles c s t q (moved c d q i) i (touch_of d)
  pub visits_settle : VisitsSettle c s t q (moved c d q i) i (touch_of d)

-- ---- the laws

-- an accepted delivery on an item of a queue is stale and changes nothing, or that queue's walk settles it
abbrev pub TouchedQueueIsWalked : Type 0
TouchedQueueIsWalked = (c : Settings) (s : State) (d : Delivery) (r : Reply) (t : State) (qs : List Queue) (q : Queue)
    (rs : List Queue) (is : List Item) (i : Item) (js : List Item) →
    are_sound c ≡ true → IsLawful c s → raw_step c s d ≡ accepted r t →
    s.queues ≡ qs ++ q ∷ rs → q.items ≡ is ++ i ∷ js → is_on s d i ≡ true →
    ((is_stale r ≡ true) × (t ≡ s)) ⊎ ((is_stale r ≡ false) × IsWalked c s d t q i)

-- the touched queue of a name, parted at the item of the delivery
pub record HasTouched (s : State) (d : Delivery) (name : List ℕ) : Type 0 where
  pub queue : Queue
  pub before : List Queue
  pub after : List Queue
  pub queues : s.queues ≡ before ++ queue ∷ after
  pub named : queue.name ≡ name
  pub item : Item
  pub ahead : List Item
  pub behind : List Item
  pub items : queue.items ≡ ahead ++ item ∷ behind
  pub on : is_on s d item ≡ true

-- a walk is enough: the touched queue has an item of the delivery, and its walk settles it; the others stay as they
-- were; and where no queue is touched, or the delivery changes nothing, nothing is left to settle
pub record AWalkIsEnough : Type 0 where
  pub touched : TouchedQueueIsWalked
  pub has_touched : (c : Settings) (s : State) (d : Delivery) (name : List ℕ) → touched_by c s d ≡ Some name →
      HasTouched s d name
  pub others : OtherQueuesStay
  pub untouched : (c : Settings) (s : State) (d : Delivery) (r : Reply) (t : State) → IsLawful c s →
      raw_step c s d ≡ accepted r t → touched_by c s d ≡ None → sweep c (rebase c t) ≡ t
  pub unchanged : (c : Settings) (s : State) → IsLawful c s → sweep c (rebase c s) ≡ s

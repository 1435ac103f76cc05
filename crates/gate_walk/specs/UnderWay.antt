-- A walk under way after a delivery: what it has done before a visit, and at its stop.
use Rattle.std.specs.Prelude.{length, ℕ, ◌<◌, ◌≤◌, ◌==◌, if◌then◌else◌, false, true, ◌+◌, nat_lt, nat_le, ◌≡◌, List}
use Rattle.std.specs.Prelude.{[], ◌∷◌, ◌++◌, map, filter, Option, Some, None, option_map}
use Rattle.gate_types.specs.declared.records.Item.{Item as ItemRow}
use Rattle.gate_types.specs.declared.deliveries.Delivery.{Delivery}
use Rattle.gate_types.specs.declared.deliveries.Reply.{Reply}
use Rattle.gate_types.specs.Settings.{Settings, are_sound}
use Rattle.gate_types.specs.State.{Item, Queue, State}
use Rattle.gate_types.specs.Line.{Place}
use Rattle.gate_types.specs.Standing.{place_of, places_after}
use Rattle.gate_types.specs.Rebase.{rebase}
use Rattle.gate_types.specs.Window.{Bounds, bounds_by, bounds_of}
use Rattle.gate_types.specs.Sweep.{sweep}
use Rattle.gate_types.specs.Step.{accepted, raw_step}
use Rattle.gate_types.specs.Lawful.{IsLawful}
use Rattle.gate_types.specs.Rows.{Rows, fold_edits}
use Rattle.gate_walk.specs.declared.walk.QueueFacts.{QueueFacts}
use Rattle.gate_walk.specs.declared.walk.Touched.{Touched}
use Rattle.gate_walk.specs.declared.walk.Next.{Next as CodeNext}
use Rattle.gate_walk.specs.declared.walk.Next.TheVariants as code
use Rattle.gate_walk.specs.Walk.{Seen, Carry, Walk, behind_visit, fails, verdict_by}
use Rattle.gate_walk.specs.Next.{Next, from, need, stop, next_of, wanted}
use Rattle.gate_walk.specs.Rescan.{walk_start, stored, rows_with, row_seen, settled_to}
use Rattle.gate_laws.specs.Touch.{is_on, is_stale}
use Rattle.gate_walk.specs.Delivery.{build_ended, moved, touch_of, begins, standing_rows}
use Rattle.gate_queue_rules.specs.Settled.{swept_of, rows_in}
use Rattle.gate_walk.specs.TakenOut.{out_of}
use Rattle.gate_walk.specs.Views.{next_of_code}

-- an accepted delivery on an item of a lawful state that isn't stale: it takes the item out, or a build of it has ended
pub record Delivered : Type 0 where
  pub settings : Settings
  pub before : State
  pub delivery : Delivery
  pub reply : Reply
  pub after : State
  pub queues_ahead : List Queue
  pub queue : Queue
  pub queues_behind : List Queue
  pub items_ahead : List Item
  pub item : Item
  pub items_behind : List Item
  pub sound : are_sound settings ≡ true
  pub lawful : IsLawful settings before
  pub is_accepted : raw_step settings before delivery ≡ accepted reply after
  pub queues : before.queues ≡ queues_ahead ++ queue ∷ queues_behind
  pub items : queue.items ≡ items_ahead ++ item ∷ items_behind
  pub on_item : is_on before delivery item ≡ true
  pub acts : is_stale reply ≡ false

-- ---- the touched queue once the delivery is done, before settling

abbrev pub queue_after : Delivered → Queue
queue_after x = moved x.settings x.delivery x.queue x.item

abbrev pub bounds_after : Delivered → Bounds
bounds_after x = bounds_of x.settings (queue_after x)

-- the rows of its items, with the columns of before
abbrev pub stale_rows : Delivered → List ItemRow
stale_rows x = standing_rows (touch_of x.delivery) x.item (stored x.settings x.before x.queue)

-- its rows
abbrev pub delivered_rows : Delivered → Rows
delivered_rows x = rows_with (queue_after x) (stale_rows x) x.after.builds

abbrev pub places_of : Delivered → List Place
places_of x = map (place_of x.settings x.after (queue_after x)) (queue_after x).items

-- its rows after a rebase and then a sweep of the whole state
abbrev pub tables_settled : Delivered → Rows
tables_settled x = rows_in x.settings (sweep x.settings (rebase x.settings x.after))
    (swept_of x.settings x.after (queue_after x))

-- its rows settled for the items below a serial, with their builds, reports and window, and as they are for all else
abbrev pub tables_settled_below : Delivered → ℕ → Rows
tables_settled_below x n = settled_to (bounds_after x) x.after.builds
    (places_after x.after.builds [] (filter (λ p. nat_lt p.item.serial n) (places_of x)))
    (filter (λ r. nat_le n r.serial) (stale_rows x)) (queue_after x)

-- ---- its walk

-- it begins behind the item ahead, told of what was taken out
abbrev pub begun_walk : Delivered → Carry
begun_walk x = begins (queue_after x) x.item (touch_of x.delivery) (stored x.settings x.before x.queue)

-- the rows as its visits see them
abbrev pub rows_seen : Delivered → List Seen
rows_seen x = map (row_seen x.settings x.after (stale_rows x)) (stale_rows x)

-- the walk after visits, the last one first
abbrev pub walk_by : Delivered → List Seen → Walk
walk_by x [] = record {
  name = (queue_after x).name;
  bounds = bounds_after x;
  touched = x.item.serial;
  carry = begun_walk x;
  told = [];
}
walk_by x (v ∷ vs) = behind_visit (walk_by x vs) v

-- what it reads next: at first the first row from the touched serial on
abbrev pub next_by : Delivered → List Seen → Next
next_by x [] = from x.item.serial
next_by x (v ∷ vs) = next_of (walk_by x (v ∷ vs)).carry v.row.serial

-- the row that is wanted, if it is there
abbrev pub row_wanted : Delivered → List Seen → Option Seen
row_wanted x vs = wanted (walk_by x vs).carry.gone (next_by x vs) (rows_seen x)

-- each visit was that of the row that was wanted
abbrev pub AreWanted : Delivered → List Seen → Type 0
AreWanted x [] = Unit {0}
AreWanted x (v ∷ vs) = (row_wanted x vs ≡ Some v) × AreWanted x vs

-- it has made these visits, the last one first
pub record HasVisited (x : Delivered) (w : Walk) (vs : List Seen) : Type 0 where
  pub is : w ≡ walk_by x vs
  pub were_wanted : AreWanted x vs

-- the queue as the walk's edits leave it
abbrev pub rows_walked : Delivered → Walk → Rows
rows_walked x w = fold_edits (delivered_rows x) w.told

-- a walk that has visited nothing: only what the items below the touched serial are to be is settled, and that is
-- what they were
pub record Starts (x : Delivered) (w : Walk) : Type 0 where
  pub visited : HasVisited x w []
  pub settled : rows_walked x w ≡ tables_settled_below x x.item.serial

-- a walk is begun as it is to be for the delivery: in its queue, at its item, behind the one ahead, told of what was
-- taken out
pub record IsFor (x : Delivered) (queue : QueueFacts) (touched : Touched) : Type 0 where
  pub name : queue.settings.now.name ≡ (queue_after x).name
  pub bounds : bounds_by queue.settings.now ≡ bounds_after x
  pub serial : touched.serial ≡ x.item.serial
  pub begins : walk_start (option_map out_of touched.out) touched.ahead queue.reports queue.window ≡ begun_walk x

-- a row is behind that of the last visit, and the first one not before the touched serial
abbrev pub IsBehindLast : Delivered → List Seen → Seen → Type 0
IsBehindLast x [] v = x.item.serial ≤ v.row.serial
IsBehindLast x (u ∷ us) v = u.row.serial < v.row.serial

-- where a visit of a row stops: at once where a build ended and the item stays with its mark; and while no line has
-- changed, a non-failing item that stays so asks for no next row but one that needs what has gone
pub record Stops (x : Delivered) (old new : Walk) (vs : List Seen) (v : Seen) (next : CodeNext) : Type 0 where
  pub at_once : vs ≡ [] → touch_of x.delivery ≡ build_ended → fails old.carry v ≡ v.row.failing →
      verdict_by old.carry v ≡ None → next_of_code next ≡ stop
  pub no_further : old.carry.resets ≡ false → fails old.carry v ≡ v.row.failing → v.row.failing ≡ false →
      next_of_code next ≡ (if length new.carry.gone == 0 then stop else need v.row.serial)

-- a visit of the row that is wanted: before it the queue is settled below that row, behind it up to that row, and at
-- a stop all of it
pub record GoesOn (x : Delivered) (old new : Walk) (v : Seen) (vs : List Seen) (next : CodeNext) : Type 0 where
  pub before : rows_walked x old ≡ tables_settled_below x v.row.serial
  pub behind : rows_walked x new ≡ tables_settled_below x (v.row.serial + 1)
  pub at_stop : next ≡ code.Stop → rows_walked x new ≡ tables_settled x
  pub visited : HasVisited x new (v ∷ vs)
  pub wants : next_of_code next ≡ next_by x (v ∷ vs)
  pub is_behind : IsBehindLast x vs v
  pub stops : Stops x old new vs v next

-- a visit by which the walk learns that no row is wanted: the queue is settled
pub record Ends (x : Delivered) (old new : Walk) (vs : List Seen) : Type 0 where
  pub settled : rows_walked x old ≡ tables_settled x
  pub same : rows_walked x new ≡ rows_walked x old
  pub visited : HasVisited x new vs

-- what a visit does to a walk, by whether the wanted row is there
abbrev pub Visits : Delivered → Walk → Walk → List Seen → Option Seen → CodeNext → Type 0
Visits x old new vs (Some v) next = GoesOn x old new v vs next
Visits x old new vs None next = Ends x old new vs

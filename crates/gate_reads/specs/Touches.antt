-- The item that a delivery touches.
use Rattle.std.specs.Prelude.{ℕ, true, ◌≡◌, List, Option, Some, None, Contains}
use Rattle.gate_types.specs.declared.deliveries.Delivery.{Delivery}
use Rattle.gate_types.specs.declared.deliveries.Delivery.TheVariants as delivery
use Rattle.gate_types.specs.declared.records.Verdict.TheVariants as verdict
use Rattle.gate_types.specs.Settings.{Settings}
use Rattle.gate_types.specs.State.{State}
use Rattle.gate_types.specs.Rows.{item_of}
use Rattle.gate_laws.specs.Touch.{touched_by, is_on}
use Rattle.gate_book_trait.specs.Reads.{items_in, window_of, reports_in}
use Rattle.gate_reads.specs.declared.touched.Event.{Event}
use Rattle.gate_reads.specs.declared.touched.Event.TheVariants as event
use Rattle.gate_reads.specs.declared.touched.QueueFigures.{QueueFigures}
use Rattle.gate_reads.specs.declared.touched.TouchedItem.{TouchedItem}

-- what befalls the item that a delivery touches, if it is of a kind that touches one
abbrev pub event_of : Delivery → Option Event
event_of (delivery.Revision n name r message) = Some (event.Left verdict.Superseded)
event_of (delivery.Withdrawn n r) = Some (event.Left verdict.Withdrawn)
event_of (delivery.Closed n r) = Some (event.Left verdict.Closed)
event_of (delivery.Landed number) = Some event.Landed
event_of (delivery.Refused number) = Some (event.Left verdict.Refused)
event_of (delivery.Result n e) = Some (event.Ended n e)
event_of _ = None

-- the figures of the queue of a name
pub record AreFigures (s : State) (name : List ℕ) (f : QueueFigures) : Type 0 where
  pub window : f.window ≡ window_of s name
  pub reports : f.reports ≡ reports_in s name

-- an item of the touched queue, which is that of the delivery
pub record IsTouched (c : Settings) (s : State) (d : Delivery) (k : TouchedItem) : Type 0 where
  pub queue : touched_by c s d ≡ Some k.queue
  pub there : Contains (items_in c s k.queue) k.item
  pub on : is_on s d (item_of k.item) ≡ true
  pub event : event_of d ≡ Some k.event
  pub figures : AreFigures s k.queue k.figures

-- a delivery touches this item, or none
abbrev pub Touches : Settings → State → Delivery → Option TouchedItem → Type 0
Touches c s d (Some k) = IsTouched c s d k
Touches c s d None = touched_by c s d ≡ None

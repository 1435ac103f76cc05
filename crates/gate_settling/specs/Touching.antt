-- An accepted delivery under way, and the item that it touched, as it stood in its queue.
use Rattle.std.specs.Prelude.{true, false, ◌≡◌, List, ◌∷◌, ◌++◌, Some, Contains}
use Rattle.gate_types.specs.declared.records.Item.{Item as ItemRow}
use Rattle.gate_types.specs.declared.edits.Edit.{Edit}
use Rattle.gate_types.specs.declared.deliveries.Delivery.{Delivery}
use Rattle.gate_types.specs.declared.deliveries.Reply.{Reply}
use Rattle.gate_types.specs.Settings.{Settings, are_sound}
use Rattle.gate_types.specs.State.{Item, Queue, State}
use Rattle.gate_types.specs.Step.{accepted, raw_step}
use Rattle.gate_types.specs.Rows.{item_of, item_rows}
use Rattle.gate_types.specs.Once.{Content}
use Rattle.gate_types.specs.Forms.{IsLawfulContent}
use Rattle.gate_walk.specs.Walk.{Seen, Walk}
use Rattle.gate_walk.specs.Rescan.{row_seen}
use Rattle.gate_laws.specs.Touch.{is_on, is_stale}
use Rattle.gate_walk.specs.UnderWay.{Delivered, HasVisited, stale_rows, rows_walked, tables_settled}
use Rattle.gate_reads.specs.declared.touched.TouchedItem.{TouchedItem}
use Rattle.gate_reads.specs.Touches.{event_of, AreFigures}

-- a delivery that is accepted and not stale, on this item of a lawful content
pub record Touching (c : Settings) (x : Content) (k : TouchedItem) : Type 0 where
  pub delivery : Delivery
  pub reply : Reply
  pub after : State
  pub queues_ahead : List Queue
  pub queue : Queue
  pub queues_behind : List Queue
  pub items_ahead : List Item
  pub items_behind : List Item
  pub sound : are_sound c ≡ true
  pub lawful : IsLawfulContent c x
  pub is_accepted : raw_step c x.state delivery ≡ accepted reply after
  pub queues : x.state.queues ≡ queues_ahead ++ queue ∷ queues_behind
  pub items : queue.items ≡ items_ahead ++ item_of k.item ∷ items_behind
  pub on_item : is_on x.state delivery (item_of k.item) ≡ true
  pub acts : is_stale reply ≡ false
  pub named : queue.name ≡ k.queue
  pub stored : Contains (item_rows c x.state queue) k.item
  pub event : event_of delivery ≡ Some k.event
  pub figures : AreFigures x.state k.queue k.figures

-- the same, as a walk is told of it
abbrev pub delivered : {c : Settings} → {x : Content} → {k : TouchedItem} → Touching c x k → Delivered
delivered {c = c} {x = x} {k = k} h = record {
  settings = c;
  before = x.state;
  delivery = h.delivery;
  reply = h.reply;
  after = h.after;
  queues_ahead = h.queues_ahead;
  queue = h.queue;
  queues_behind = h.queues_behind;
  items_ahead = h.items_ahead;
  item = item_of k.item;
  items_behind = h.items_behind;
  sound = h.sound;
  lawful = h.lawful.lawful;
  is_accepted = h.is_accepted;
  queues = h.queues;
  items = h.items;
  on_item = h.on_item;
  acts = h.acts;
}

-- a row as a visit is to see it
abbrev pub sees : {c : Settings} → {x : Content} → {k : TouchedItem} → Touching c x k → ItemRow → Seen
sees {c = c} h r = row_seen c h.after (stale_rows (delivered h)) r

-- a walk has made its visits, and its edits settle the queue
pub record HasWalked {c : Settings} {x : Content} {k : TouchedItem} (h : Touching c x k) (w : Walk) : Type 0 where
  pub visits : List Seen
  pub visited : HasVisited (delivered h) w visits
  pub settled : rows_walked (delivered h) w ≡ tables_settled (delivered h)

-- these are the edits of such a walk
pub record AreToldOf {c : Settings} {x : Content} {k : TouchedItem} (h : Touching c x k)
    (edits : List Edit) : Type 0 where
  pub walk : Walk
  pub walked : HasWalked h walk
  pub told : edits ≡ walk.told

-- The orders that queues show, as rows of a book tell of them.
use Rattle.std.specs.Prelude.{ℕ, ◌≡◌, List, Option, Some, None, option_and_then, Contains}
use Rattle.gate_types.specs.declared.records.Item.{Item as ItemRow}
use Rattle.gate_types.specs.Settings.{Settings}
use Rattle.gate_types.specs.State.{State, plan_of}
use Rattle.gate_types.specs.SubmitOrder.{Order, order_of}
use Rattle.gate_types.specs.Rows.{item_of}
use Rattle.gate_book_trait.specs.Reads.{queue_named, items_in, live_builds}
use Rattle.gate_reads.specs.declared.orders.ShownItem.{ShownItem}

-- the order that the queue of a name shows; none where there is no such queue
abbrev pub order_in : Settings → State → List ℕ → Option Order
order_in c s name = option_and_then (order_of c s) (queue_named s name)

-- a row of a queue is that of an order's item
pub record IsRowOf (c : Settings) (s : State) (name : List ℕ) (row : ItemRow) (o : Order) : Type 0 where
  pub stored : Contains (items_in c s name) row
  pub queue : name ≡ o.queue.name
  pub item : item_of row ≡ o.item

-- there is a row of a queue just where there is an order, and it is that of the order's item
abbrev pub TellsOrder : Settings → State → List ℕ → Option ItemRow → Option Order → Type 0
TellsOrder c s name (Some row) (Some o) = IsRowOf c s name row o
TellsOrder c s name None None = Unit {0}
TellsOrder c s name _ _ = ⊥

-- this is the item of an order: its row, its plan, and its live builds
pub record IsItemOf (c : Settings) (s : State) (k : ShownItem) (o : Order) : Type 0 where
  pub row : IsRowOf c s k.queued.queue k.queued.item o
  pub plan : k.plan ≡ plan_of s k.queued.item.serial
  pub builds : k.builds ≡ live_builds s k.queued.item.serial

-- there is an item just where there is an order, and it is the order's
abbrev pub TellsShown : Settings → State → Option ShownItem → Option Order → Type 0
TellsShown c s (Some k) (Some o) = IsItemOf c s k o
TellsShown c s None None = Unit {0}
TellsShown c s _ _ = ⊥

-- For the inside alone: the lines that several kinds of deliveries begin with.
use Rattle.std.specs.Prelude.{◌≡◌, ℕ, nat_lt, if◌then◌else◌, Some, Result, Ok, Err}
use Rattle.gate_types.specs.declared.records.Change.{Change}
use Rattle.gate_types.specs.declared.deliveries.Delivery.{Delivery}
use Rattle.gate_types.specs.declared.deliveries.Reply.TheVariants as reply
use Rattle.gate_types.specs.Settings.{Settings}
use Rattle.gate_types.specs.State.{State, known_change, plan_of}
use Rattle.gate_types.specs.SubmitOrder.{Order, shown_order}
use Rattle.gate_types.specs.Step.{Stepped, accepted, on_known, on_order, raw_step}
use Rattle.gate_types.specs.Once.{Content}
use Rattle.gate_book_trait.specs.declared.rows.QueuedItem.{QueuedItem}
use Rattle.gate_book_trait.specs.Reads.{live_builds}
use Rattle.gate_reads.specs.Raw.{IsRaw}
use Rattle.gate_reads.specs.declared.raw.Raw.{Raw}
use Rattle.gate_reads.specs.declared.orders.ShownItem.{ShownItem}
use Rattle.gate_reads.specs.Orders.{IsRowOf}

-- stale where a later revision of the change is known, else as the other lines say
abbrev pub unless_past : State → ℕ → (Change → Stepped) → Change → Stepped
unless_past s r f k = if nat_lt r k.revision then accepted reply.Stale s else f k

-- of this change the other lines decide, whatever they say
abbrev pub OthersDecide : State → ℕ → ℕ → Change → Type 0
OthersDecide s n r k = (f : Change → Stepped) → on_known s n r (unless_past s r f) ≡ f k

-- this is the change of a number at its latest revision; or it is what each delivery of these lines comes to
abbrev pub IsLatest : Settings → Content → ℕ → ℕ → Result Change Raw → Type 0
IsLatest c x n r (Ok k) = (known_change x.state n ≡ Some k) × OthersDecide x.state n r k
IsLatest c x n r (Err raw) =
    (f : Change → Stepped) (d : Delivery) →
    raw_step c x.state d ≡ on_known x.state n r (unless_past x.state r f) → IsRaw c x d raw

-- an order of this number is shown, and this is the row of its item
pub record HasOrder (c : Settings) (s : State) (number : ℕ) (k : QueuedItem) : Type 0 where
  pub order : Order
  pub shown : shown_order c s number ≡ Some order
  pub goes : (f : Order → Stepped) → on_order c s number f ≡ f order
  pub row : IsRowOf c s k.queue k.item order

-- this is the item of a shown order, with its plan and its live builds; or it is what each delivery on this order
-- comes to
abbrev pub IsOrdered : Settings → Content → ℕ → Result ShownItem Raw → Type 0
IsOrdered c x number (Ok k) =
    HasOrder c x.state number k.queued × (k.plan ≡ plan_of x.state k.queued.item.serial) ×
    (k.builds ≡ live_builds x.state k.queued.item.serial)
IsOrdered c x number (Err raw) =
    (f : Order → Stepped) (d : Delivery) → raw_step c x.state d ≡ on_order c x.state number f → IsRaw c x d raw

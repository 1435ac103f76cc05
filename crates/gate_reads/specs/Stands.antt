-- Where a change stands, as a book tells it.
use Rattle.std.specs.Prelude.{ℕ, ◌≡◌, true, false, Some, Contains}
use Rattle.gate_types.specs.Settings.{Settings}
use Rattle.gate_types.specs.State.{State, is_queued, is_ready}
use Rattle.gate_types.specs.SubmitOrder.{is_submitting}
use Rattle.gate_laws.specs.Touch.{queue_of_change}
use Rattle.gate_book_trait.specs.declared.rows.QueuedItem.{QueuedItem}
use Rattle.gate_book_trait.specs.Reads.{items_in, live_builds}
use Rattle.gate_reads.specs.declared.stands.Stand.{Stand}
use Rattle.gate_reads.specs.declared.stands.Stand.TheVariants as stand
use Rattle.gate_reads.specs.declared.stands.LiveItem.{LiveItem}
use Rattle.gate_reads.specs.declared.stands.QueuePlace.{QueuePlace}
use Rattle.gate_reads.specs.declared.stands.QueuePlace.TheVariants as place

-- the change is that of this row of this queue
pub record IsQueuedAs (c : Settings) (s : State) (n : ℕ) (k : QueuedItem) : Type 0 where
  pub queued : is_queued s n ≡ true
  pub queue : queue_of_change s n ≡ Some k.queue
  pub stored : Contains (items_in c s k.queue) k.item
  pub change : k.item.change ≡ n

-- it is an item of a queue, or ready, or neither
abbrev pub StandsSo : Settings → State → ℕ → Stand → Type 0
StandsSo c s n (stand.Queued k) = IsQueuedAs c s n k
StandsSo c s n stand.Ready = (is_queued s n ≡ false) × (is_ready s n ≡ true)
StandsSo c s n stand.Nowhere = (is_queued s n ≡ false) × (is_ready s n ≡ false)

-- the change is that of this row, and these are its item's live builds
pub record IsLiveAs (c : Settings) (s : State) (n : ℕ) (k : LiveItem) : Type 0 where
  pub row : IsQueuedAs c s n k.queued
  pub builds : k.builds ≡ live_builds s k.queued.item.serial

-- an order for it is shown; or none is, and it is an item, or in no queue
abbrev pub QueuesSo : Settings → State → ℕ → QueuePlace → Type 0
QueuesSo c s n place.Submitting = is_submitting c s n ≡ true
QueuesSo c s n (place.Item k) = (is_submitting c s n ≡ false) × IsLiveAs c s n k
QueuesSo c s n place.Outside = (is_submitting c s n ≡ false) × (is_queued s n ≡ false)

-- For the inside alone: the edits of an item that leaves its queue.
use Rattle.std.specs.Prelude.{ℕ, ◌≡◌, Bool, true, false, List, [], ◌∷◌, Option, Some, None}
use Rattle.gate_types.specs.declared.records.Build.{Build}
use Rattle.gate_types.specs.declared.records.Verdict.{Verdict}
use Rattle.gate_types.specs.declared.edits.Edit.{Edit}
use Rattle.gate_types.specs.declared.edits.Edit.TheVariants as edit
use Rattle.gate_types.specs.Settings.{Settings}
use Rattle.gate_types.specs.State.{State, is_queued}
use Rattle.gate_types.specs.Rows.{item_of}
use Rattle.gate_types.specs.Sweep.{report_of}
use Rattle.gate_book_trait.specs.declared.rows.QueuedItem.{QueuedItem}
use Rattle.gate_reads.specs.declared.touched.Event.TheVariants as event
use Rattle.gate_reads.specs.declared.touched.TouchedItem.{TouchedItem}
use Rattle.gate_reads.specs.declared.stands.QueuePlace.{QueuePlace}
use Rattle.gate_reads.specs.declared.stands.QueuePlace.TheVariants as place
use Rattle.gate_reads.specs.Stands.{IsQueuedAs}
use Rattle.gate_reads.specs.Touches.{AreFigures}

-- a build stops
abbrev pub stop_of : Build → Edit
stop_of b = edit.StopBuild b.number

-- the item of a queue is reported, at a place, and gone by this edit
abbrev pub out_of_queue : QueuedItem → Edit → ℕ → Verdict → List Edit
out_of_queue k gone place v = edit.PutReport k.queue place (report_of v (item_of k.item)) ∷ gone ∷ []

-- the change is that of this item, which it takes out of its queue
pub record IsLeaving (c : Settings) (s : State) (n : ℕ) (v : Verdict) (k : TouchedItem) : Type 0 where
  pub row : IsQueuedAs c s n (record { queue = k.queue; item = k.item })
  pub event : k.event ≡ event.Left v
  pub figures : AreFigures s k.queue k.figures

-- the item that is touched where a change gives up its place, if it has one
abbrev pub GivesUp : Settings → State → ℕ → Verdict → Option TouchedItem → Type 0
GivesUp c s n v (Some k) = IsLeaving c s n v k
GivesUp c s n v None = is_queued s n ≡ false

-- an order for the change is shown
abbrev pub is_submitting_at : QueuePlace → Bool
is_submitting_at place.Submitting = true
is_submitting_at _ = false

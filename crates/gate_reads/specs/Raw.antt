-- What a delivery comes to before settling.
use Rattle.std.specs.Prelude.{◌≡◌, ℕ, false, Some}
use Rattle.gate_types.specs.declared.records.Change.{Change}
use Rattle.gate_types.specs.declared.deliveries.Delivery.{Delivery}
use Rattle.gate_types.specs.declared.deliveries.Reply.{Reply}
use Rattle.gate_types.specs.declared.deliveries.Answer.TheVariants as answer
use Rattle.gate_types.specs.Settings.{Settings}
use Rattle.gate_types.specs.State.{State, known_change, is_ready}
use Rattle.gate_types.specs.Settle.{settle}
use Rattle.gate_types.specs.Step.{raw_step, step, accepted, refused, approval_reply}
use Rattle.gate_types.specs.Once.{Content, is_unavailable}
use Rattle.gate_laws.specs.Touch.{is_stale}
use Rattle.gate_reads.specs.Moves.{Moves}
use Rattle.gate_reads.specs.Touches.{Touches}
use Rattle.gate_reads.specs.declared.raw.Raw.{Raw}
use Rattle.gate_reads.specs.declared.raw.Raw.TheVariants as raw
use Rattle.gate_reads.specs.declared.raw.Moved.{Moved}
use Rattle.gate_reads.specs.declared.raw.PendingReply.{PendingReply}
use Rattle.gate_reads.specs.declared.raw.PendingReply.TheVariants as pending

-- the reply, said at once or read from the settled state
abbrev pub reply_by : PendingReply → State → Reply
reply_by (pending.Now r) u = r
reply_by (pending.PlaceOf n) u = approval_reply n u

-- a known change that wasn't ready, and no change is put otherwise
pub record IsMadeReady (s t : State) (n : ℕ) : Type 0 where
  pub change : Change
  pub known : known_change s n ≡ Some change
  pub unready : is_ready s n ≡ false
  pub changes : t.changes ≡ s.changes

-- a change whose place is told becomes ready
abbrev pub MakesReady : State → PendingReply → State → Type 0
MakesReady s (pending.Now r) t = Unit {0}
MakesReady s (pending.PlaceOf n) t = IsMadeReady s t n

-- the delivery is accepted and changes something: the edits move the content to the state before settling, and the
-- reply and the touched item are the delivery's
pub record IsMoved (c : Settings) (x : Content) (d : Delivery) (m : Moved) : Type 0 where
  pub after : State
  pub accepted : raw_step c x.state d ≡ accepted (reply_by m.reply (settle c after)) after
  pub acts : is_stale (reply_by m.reply (settle c after)) ≡ false
  pub touches : Touches c x.state d m.touched
  pub moves : Moves x m.edits.items after
  pub makes_ready : MakesReady x.state m.reply after

-- a delivery is refused; or it is accepted and changes nothing; or edits move the content
abbrev pub IsRaw : Settings → Content → Delivery → Raw → Type 0
IsRaw c x d (raw.Refused r) = (step c x.state d ≡ refused r) × (is_unavailable (answer.Refused r) ≡ false)
IsRaw c x d (raw.Stands r) = raw_step c x.state d ≡ accepted r x.state
IsRaw c x d (raw.Moved m) = IsMoved c x d m

-- What the lines of `withdrawn` come to.
use Rattle.std.proofs.Common.{◌≡◌, ◌∙◌, ℕ, true, false, not, Some, map, filter, refl}
use Rattle.std.specs.Prelude.{◌==◌, if◌then◌else◌}
use Rattle.std.specs.List.Sorted.{IsStrictlyIncreasing}
use Rattle.gate_types.specs.declared.records.Change.{Change}
use Rattle.gate_types.specs.declared.records.Verdict.TheVariants as verdict
use Rattle.gate_types.specs.declared.deliveries.Reply.TheVariants as reply
use Rattle.gate_types.specs.declared.deliveries.Refusal.TheVariants as refusal
use Rattle.gate_types.specs.Settings.{Settings}
use Rattle.gate_types.specs.State.{State, known_change, put_change, is_queued, is_ready}
use Rattle.gate_types.specs.Admit.{without_ready}
use Rattle.gate_types.specs.SubmitOrder.{is_submitting}
use Rattle.gate_types.specs.Step.{Stepped, raw_withdrawn, accepted, refused, leave}
use Rattle.gate_laws.proofs.RecordedChange.{known_number}
use Rattle.gate_ruling.specs.Guards.{OthersDecide}
use Rattle.gate_ruling.proofs.Put.{put_known}

-- the lines on a change at its latest revision
abbrev pub withdrawing : Settings → State → ℕ → Change → Stepped
withdrawing c s n k =
    if is_submitting c s n then refused refusal.Submitting else (
    if is_queued s n then accepted reply.Removed (leave verdict.Withdrawn n s) else (
    if is_ready s n then accepted reply.Recorded (without_ready n s) else accepted reply.Stale s))

pub submitting_raw : (c : Settings) (s : State) (n r : ℕ) (k : Change) → OthersDecide s n r k →
    is_submitting c s n ≡ true → raw_withdrawn c s n r ≡ refused refusal.Submitting
submitting_raw c s n r k goes shown = goes (withdrawing c s n) ∙ rw shown refl

pub removed_raw : (c : Settings) (s : State) (n r : ℕ) (k : Change) → OthersDecide s n r k →
    is_submitting c s n ≡ false → is_queued s n ≡ true →
    raw_withdrawn c s n r ≡ accepted reply.Removed (leave verdict.Withdrawn n s)
removed_raw c s n r k goes free queued = goes (withdrawing c s n) ∙ rw (free, queued) refl

pub recorded_raw : (c : Settings) (s : State) (n r : ℕ) (k : Change) → OthersDecide s n r k →
    is_submitting c s n ≡ false → is_queued s n ≡ false → is_ready s n ≡ true →
    raw_withdrawn c s n r ≡ accepted reply.Recorded (without_ready n s)
recorded_raw c s n r k goes free queued ready = goes (withdrawing c s n) ∙ rw (free, queued, ready) refl

pub nowhere_raw : (c : Settings) (s : State) (n r : ℕ) (k : Change) → OthersDecide s n r k →
    is_submitting c s n ≡ false → is_queued s n ≡ false → is_ready s n ≡ false →
    raw_withdrawn c s n r ≡ accepted reply.Stale s
nowhere_raw c s n r k goes free queued ready = goes (withdrawing c s n) ∙ rw (free, queued, ready) refl

-- a known change put anew is as it was, but for the ready list
pub unready_again : (s : State) (n : ℕ) (k : Change) → IsStrictlyIncreasing (map (λ j. j.number) s.changes) →
    known_change s n ≡ Some k → put_change k (without_ready k.number s) ≡ without_ready n s
unready_again s n k rises known = λ i. record s {
  changes = put_known s n k rises known i;
  ready = filter (λ r. not (r.change == known_number s n k known i)) s.ready;
}

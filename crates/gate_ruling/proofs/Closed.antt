-- What the lines of `closed` and of `revision` come to.
use Rattle.std.proofs.Common.{◌≡◌, ℕ, ◌≤◌, Bool, true, false, not, cond, Some, List, [], length, refl, sym, ap, ◌∙◌}
use Rattle.std.specs.Prelude.{unwrap_or, nat_le, ◌||◌, if◌then◌else◌}
use Rattle.std.proofs.lemmas.Bool.{le-ltb}
use Rattle.gate_types.specs.declared.records.Change.{Change}
use Rattle.gate_types.specs.declared.records.Stage.TheVariants as stage
use Rattle.gate_types.specs.declared.records.Verdict.TheVariants as verdict
use Rattle.gate_types.specs.declared.deliveries.Reply.{Reply}
use Rattle.gate_types.specs.declared.deliveries.Reply.TheVariants as reply
use Rattle.gate_types.specs.declared.deliveries.Refusal.TheVariants as refusal
use Rattle.gate_types.specs.Names.{same_name}
use Rattle.gate_types.specs.Needs.{needs}
use Rattle.gate_types.specs.Settings.{Settings}
use Rattle.gate_types.specs.State.{State, known_change, put_change, is_open, is_landed, is_queued}
use Rattle.gate_types.specs.Admit.{without_ready}
use Rattle.gate_types.specs.SubmitOrder.{is_submitting}
use Rattle.gate_types.specs.Step.{Stepped, raw_closed, raw_revision, accepted, refused, leave, revised, has_project}
use Rattle.gate_types.specs.Step.{is_known_and}
use Rattle.gate_types.specs.Limits.{most_needs}
use Rattle.gate_laws.specs.Touch.{is_stale}
use Rattle.gate_ruling.specs.Guards.{OthersDecide}
use Rattle.gate_ruling.proofs.Guarded.{open_goes}
use Rattle.gate_laws.proofs.EachAccepted.{closed_state}
use Rattle.gate_laws.proofs.RecordedChange.{known_number}

-- the lines on an open change at its latest revision
abbrev pub closing : Settings → State → ℕ → Change → Stepped
closing c s n k =
    if is_submitting c s n then refused refusal.Submitting else
    accepted (if is_queued s n then reply.Removed else reply.Recorded) (closed_state n s)

pub closed_raw : (c : Settings) (s : State) (n r : ℕ) (k : Change) → OthersDecide s n r k → is_open k ≡ true →
    is_submitting c s n ≡ false → (said : Reply) (queued : Bool) →
    said ≡ cond queued reply.Removed reply.Recorded → queued ≡ is_queued s n →
    raw_closed c s n r ≡ accepted said (closed_state n s)
closed_raw c s n r k goes opens free said queued told at =
    open_goes s n r k (closing c s n) goes opens
    ∙ rw free refl
    ∙ ap (λ b. accepted (cond b reply.Removed reply.Recorded) (closed_state n s)) (sym at)
    ∙ ap (λ y. accepted y (closed_state n s)) (sym told)

pub shown_raw : (c : Settings) (s : State) (n r : ℕ) (k : Change) → OthersDecide s n r k → is_open k ≡ true →
    is_submitting c s n ≡ true → raw_closed c s n r ≡ refused refusal.Submitting
shown_raw c s n r k goes opens shown = open_goes s n r k (closing c s n) goes opens ∙ rw shown refl

pub closed_acts : (said : Reply) (queued : Bool) → said ≡ cond queued reply.Removed reply.Recorded →
    is_stale said ≡ false
closed_acts said true e = ap is_stale e
closed_acts said false e = ap is_stale e

-- the change put anew is the known one, closed
pub closed_is : (s : State) (n : ℕ) (k : Change) → known_change s n ≡ Some k →
    put_change (record k { stage = stage.Closed }) (without_ready k.number (leave verdict.Closed n s))
    ≡ closed_state n s
closed_is s n k known =
    let unknown : Change = record { number = n; project = []; revision = 0; stage = stage.Closed; needs = [] } in
    (λ i. put_change (record k { stage = stage.Closed })
    (without_ready (known_number s n k known i) (leave verdict.Closed n s)))
    ∙ ap (λ o. put_change (record (unwrap_or o unknown) { stage = stage.Closed })
    (without_ready n (leave verdict.Closed n s))) (sym known)

pub revision_raw : (c : Settings) (s : State) (n : ℕ) (name : List ℕ) (r : ℕ) (message : List ℕ) →
    has_project c name ≡ true → is_known_and s n (λ k. not (same_name k.project name)) ≡ false →
    is_known_and s n (λ k. nat_le r k.revision || is_landed k) ≡ false → is_submitting c s n ≡ false →
    length (needs c.base message) ≤ most_needs → (k : Change) →
    k ≡ record { number = n; project = name; revision = r; stage = stage.Open; needs = needs c.base message } →
    raw_revision c s n name r message ≡ accepted reply.Recorded (revised k s)
revision_raw c s n name r message there own late free few k is =
    rw (there, own, late, free, le-ltb most_needs (length (needs c.base message)) few) refl
    ∙ ap (λ j. accepted reply.Recorded (revised j s)) (sym is)

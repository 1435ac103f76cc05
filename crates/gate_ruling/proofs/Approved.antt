-- What the lines of `approved` come to.
use Rattle.std.proofs.Common.{◌≡◌, ◌∙◌, ℕ, true, false, cond, Option, Some, None, refl, sym, ap, true≢false}
use Rattle.std.specs.Prelude.{◌||◌, ◌==◌, if◌then◌else◌, find, flat_map}
use Rattle.std.specs.Option.{option_map_or}
use Rattle.std.proofs.lemmas.Bool.{or_left, or_right}
use Rattle.gate_types.specs.declared.records.Change.{Change}
use Rattle.gate_types.specs.declared.deliveries.Reply.TheVariants as reply
use Rattle.gate_types.specs.Settings.{Settings}
use Rattle.gate_types.specs.State.{Item, State, is_open, is_queued, is_ready}
use Rattle.gate_types.specs.Settle.{settle}
use Rattle.gate_types.specs.Step.{Stepped, raw_approved, accepted, made_ready, approval_reply}
use Rattle.gate_laws.specs.Touch.{is_stale}
use Rattle.gate_reads.specs.Stands.{StandsSo}
use Rattle.gate_reads.specs.declared.stands.Stand.{Stand}
use Rattle.gate_reads.specs.declared.stands.Stand.TheVariants as stand
use Rattle.gate_ruling.specs.Approving.{is_nowhere}
use Rattle.gate_ruling.specs.Guards.{OthersDecide}
use Rattle.gate_ruling.proofs.Guarded.{open_goes}

-- the lines on an open change at its latest revision
abbrev pub approving : Settings → State → ℕ → Change → Stepped
approving c s n k =
    if is_ready s n || is_queued s n then accepted reply.Already s else
    accepted (approval_reply n (settle c (made_ready n s))) (made_ready n s)

pub approved_raw : (c : Settings) (s : State) (n r : ℕ) (k : Change) → OthersDecide s n r k → is_open k ≡ true →
    (is_queued s n ≡ false) × (is_ready s n ≡ false) →
    raw_approved c s n r ≡ accepted (approval_reply n (settle c (made_ready n s))) (made_ready n s)
approved_raw c s n r k goes opens away =
    open_goes s n r k (approving c s n) goes opens ∙ rw (away.1, away.0) refl

pub already_raw : (c : Settings) (s : State) (n r : ℕ) (k : Change) → OthersDecide s n r k → is_open k ≡ true →
    is_ready s n || is_queued s n ≡ true → raw_approved c s n r ≡ accepted reply.Already s
already_raw c s n r k goes opens waits =
    open_goes s n r k (approving c s n) goes opens
    ∙ ap (λ b. cond b (accepted reply.Already s)
    (accepted (approval_reply n (settle c (made_ready n s))) (made_ready n s))) waits

-- the reply tells a place, or that the change waits
pub approval_acts : (n : ℕ) (s : State) → is_stale (approval_reply n s) ≡ false
approval_acts n s = by_found (find (λ i. i.change == n) (flat_map (λ q. q.items) s.queues))
  where
    by_found : (o : Option Item) → is_stale (option_map_or (λ i. reply.Queued i.serial) o reply.Waiting) ≡ false
    by_found None = refl
    by_found (Some i) = refl

pub nowhere : (c : Settings) (s : State) (n : ℕ) (st : Stand) → StandsSo c s n st → is_nowhere st ≡ true →
    (is_queued s n ≡ false) × (is_ready s n ≡ false)
nowhere c s n (stand.Queued k) so h = absurd (true≢false (sym h))
nowhere c s n stand.Ready so h = absurd (true≢false (sym h))
nowhere c s n stand.Nowhere so h = so

pub somewhere : (c : Settings) (s : State) (n : ℕ) (st : Stand) → StandsSo c s n st → is_nowhere st ≡ false →
    is_ready s n || is_queued s n ≡ true
somewhere c s n (stand.Queued k) so h = or_right (is_ready s n) (is_queued s n) so.queued
somewhere c s n stand.Ready so h = or_left (is_ready s n) (is_queued s n) so.1
somewhere c s n stand.Nowhere so h = absurd (true≢false h)

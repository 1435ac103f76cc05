-- What is true of each state that a delivery is accepted with, by its reply: a stale one left the state as it was.
use Rattle.std.proofs.Common.{◌≡◌, ℕ, ◌+◌, Bool, true, false, not, ◌&&◌, ◌||◌, cond, Option, Some, None, List, length}
use Rattle.std.proofs.Common.{◌⊎◌, inl, inr, refl, subst}
use Rattle.std.specs.Prelude.{nat_lt, nat_le, if◌then◌else◌}
use Rattle.std.specs.Option.{option_map_or}
use Rattle.gate_types.specs.declared.records.Build.{Build}
use Rattle.gate_types.specs.declared.records.Change.{Change}
use Rattle.gate_types.specs.declared.records.Verdict.TheVariants as verdict
use Rattle.gate_types.specs.declared.deliveries.Ending.{Ending}
use Rattle.gate_types.specs.declared.deliveries.Reply.{Reply}
use Rattle.gate_types.specs.declared.deliveries.Reply.TheVariants as reply
use Rattle.gate_types.specs.declared.deliveries.Refusal.TheVariants as refusal
use Rattle.gate_types.specs.Names.{same_name}
use Rattle.gate_types.specs.Needs.{needs}
use Rattle.gate_types.specs.Settings.{Settings}
use Rattle.gate_types.specs.State.{State, known_change, is_open, is_landed, is_queued, is_ready}
use Rattle.gate_types.specs.Slot.{is_running}
use Rattle.gate_types.specs.Admit.{without_ready}
use Rattle.gate_types.specs.SubmitOrder.{Order, shown_order, is_submitting}
use Rattle.gate_types.specs.Step.{Stepped, accepted, refused, on_known, leave, revised, has_project, is_known_and}
use Rattle.gate_types.specs.Step.{build_of, end_build, raw_revision, raw_withdrawn, raw_closed, raw_landed}
use Rattle.gate_types.specs.Step.{raw_refused, raw_result}
use Rattle.gate_types.specs.Limits.{most_needs}
use Rattle.gate_laws.specs.Touch.{is_stale}
use Rattle.gate_laws.proofs.EachAccepted.{closed_state, new_revision, landed_state, refused_state}

-- a stale reply, and nothing changed, or another, and this is true
abbrev pub IsStaleOr : State → (State → Type 0) → Reply → State → Type 0
IsStaleOr s P r t = ((is_stale r ≡ true) × (t ≡ s)) ⊎ ((is_stale r ≡ false) × P t)

abbrev pub OnReply : State → (State → Type 0) → Stepped → Type 0
OnReply s P (accepted r t) = IsStaleOr s P r t
OnReply s P (refused r) = Unit {0}

pub on_reply : (s : State) (P : State → Type 0) (x : Stepped) → OnReply s P x → (r : Reply) (t : State) → x ≡ accepted r t → IsStaleOr s P r t
on_reply s P x h r t e = subst (OnReply s P) e h

-- the two sides of a test
test_reply : (s : State) (P : State → Type 0) (b : Bool) (x y : Stepped) → (b ≡ true → OnReply s P x) → (b ≡ false → OnReply s P y) → OnReply s P (cond b x y)
test_reply s P true x y h k = h refl
test_reply s P false x y h k = k refl

-- what there is, or a refusal
some_reply : {X : Type 0} (s : State) (P : State → Type 0) (o : Option X) (f : X → Stepped) (none : Stepped) → ((x : X) → o ≡ Some x → OnReply s P (f x)) → OnReply s P none → OnReply s P (option_map_or f o none)
some_reply s P None f none h k = k
some_reply s P (Some x) f none h k = h x refl

-- a known change
known_reply : (s : State) (P : State → Type 0) (n r : ℕ) (f : Change → Stepped) → ((k : Change) → OnReply s P (f k)) → OnReply s P (on_known s n r f)
known_reply s P n r f h =
    some_reply s P (known_change s n) (λ k. cond (nat_lt k.revision r) (refused refusal.UnknownRevision) (f k)) (refused refusal.UnknownChange)
    (λ k e. test_reply s P (nat_lt k.revision r) (refused refusal.UnknownRevision) (f k) (λ t. tt) (λ t. h k)) tt

-- ---- deliveries of a change that is queued

pub withdrawn_reply : (P : State → Type 0) (c : Settings) (s : State) (n r : ℕ) → P (leave verdict.Withdrawn n s) → (is_queued s n ≡ false → P (without_ready n s)) → OnReply s P (raw_withdrawn c s n r)
withdrawn_reply P c s n r left unready = known_reply s P n r rule each
  where
    taken_out : Stepped
    taken_out = if is_ready s n then accepted reply.Recorded (without_ready n s) else accepted reply.Stale s

    unshown : Stepped
    unshown = if is_queued s n then accepted reply.Removed (leave verdict.Withdrawn n s) else taken_out

    latest : Stepped
    latest = if is_submitting c s n then refused refusal.Submitting else unshown

    rule : Change → Stepped
    rule k = if nat_lt r k.revision then accepted reply.Stale s else latest

    each : (k : Change) → OnReply s P (rule k)
    each k =
        test_reply s P (nat_lt r k.revision) (accepted reply.Stale s) latest (λ a. inl (refl, refl))
        (λ a. test_reply s P (is_submitting c s n) (refused refusal.Submitting) unshown (λ b. tt)
        (λ b. test_reply s P (is_queued s n) (accepted reply.Removed (leave verdict.Withdrawn n s)) taken_out (λ d. inr (refl, left))
        (λ d. test_reply s P (is_ready s n) (accepted reply.Recorded (without_ready n s)) (accepted reply.Stale s) (λ f. inr (refl, unready d)) (λ f. inl (refl, refl)))))

pub closed_reply : (P : State → Type 0) (c : Settings) (s : State) (n r : ℕ) → P (closed_state n s) → OnReply s P (raw_closed c s n r)
closed_reply P c s n r closed = known_reply s P n r rule each
  where
    goes : Stepped
    goes = accepted (if is_queued s n then reply.Removed else reply.Recorded) (closed_state n s)

    latest : Stepped
    latest = if is_submitting c s n then refused refusal.Submitting else goes

    rule : Change → Stepped
    rule k = if nat_lt r k.revision || not (is_open k) then accepted reply.Stale s else latest

    fresh : (b : Bool) → is_stale (cond b reply.Removed reply.Recorded) ≡ false
    fresh true = refl
    fresh false = refl

    each : (k : Change) → OnReply s P (rule k)
    each k =
        test_reply s P (nat_lt r k.revision || not (is_open k)) (accepted reply.Stale s) latest (λ a. inl (refl, refl))
        (λ a. test_reply s P (is_submitting c s n) (refused refusal.Submitting) goes (λ b. tt) (λ b. inr (fresh (is_queued s n), closed)))

pub revision_reply : (P : State → Type 0) (c : Settings) (s : State) (n : ℕ) (name : List ℕ) (r : ℕ) (message : List ℕ) → P (revised (new_revision c n name r message) s) → OnReply s P (raw_revision c s n name r message)
revision_reply P c s n name r message revise =
    test_reply s P (not (has_project c name)) (refused refusal.UnknownProject) known (λ a. tt)
    (λ a. test_reply s P (is_known_and s n (λ k. not (same_name k.project name))) (refused refusal.ProjectChanged) newer (λ b. tt)
    (λ b. test_reply s P (is_known_and s n (λ k. nat_le r k.revision || is_landed k)) (accepted reply.Stale s) latest (λ d. inl (refl, refl))
    (λ d. test_reply s P (is_submitting c s n) (refused refusal.Submitting) few (λ f. tt)
    (λ f. test_reply s P (nat_lt most_needs (length (needs c.base message))) (refused refusal.TooManyNeeds) recorded (λ g. tt) (λ g. inr (refl, revise))))))
  where
    recorded : Stepped
    recorded = accepted reply.Recorded (revised (new_revision c n name r message) s)

    few : Stepped
    few = if nat_lt most_needs (length (needs c.base message)) then refused refusal.TooManyNeeds else recorded

    latest : Stepped
    latest = if is_submitting c s n then refused refusal.Submitting else few

    newer : Stepped
    newer = if is_known_and s n (λ k. nat_le r k.revision || is_landed k) then accepted reply.Stale s else latest

    known : Stepped
    known = if is_known_and s n (λ k. not (same_name k.project name)) then refused refusal.ProjectChanged else newer

-- ---- answers to an order, and a result

pub landed_reply : (P : State → Type 0) (c : Settings) (s : State) (m : ℕ) → ((o : Order) → shown_order c s m ≡ Some o → P (landed_state c o s)) → OnReply s P (raw_landed c s m)
landed_reply P c s m h = some_reply s P (shown_order c s m) (λ o. accepted (reply.Landed (length o.queue.landings + 1)) (landed_state c o s)) (refused refusal.NoOrder) (λ o e. inr (refl, h o e)) tt

pub refused_reply : (P : State → Type 0) (c : Settings) (s : State) (m : ℕ) → ((o : Order) → shown_order c s m ≡ Some o → P (refused_state c o s)) → OnReply s P (raw_refused c s m)
refused_reply P c s m h = some_reply s P (shown_order c s m) (λ o. accepted reply.Removed (refused_state c o s)) (refused refusal.NoOrder) (λ o e. inr (refl, h o e)) tt

pub result_reply : (P : State → Type 0) (s : State) (n : ℕ) (e : Ending) → ((a : Build) → build_of s n ≡ Some a → a.live && is_running a.outcome ≡ true → P (end_build e n s)) → OnReply s P (raw_result s n e)
result_reply P s n e ended = some_reply s P (build_of s n) rule (refused refusal.UnknownBuild) each tt
  where
    rule : Build → Stepped
    rule b = if b.live && is_running b.outcome then accepted reply.Noted (end_build e n s) else accepted reply.Stale s

    each : (a : Build) → build_of s n ≡ Some a → OnReply s P (rule a)
    each a known = test_reply s P (a.live && is_running a.outcome) (accepted reply.Noted (end_build e n s)) (accepted reply.Stale s) (λ b. inr (refl, ended a known b)) (λ b. inl (refl, refl))

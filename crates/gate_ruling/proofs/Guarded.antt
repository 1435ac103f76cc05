-- A change that isn't open any more, behind the line on its revision.
use Rattle.std.proofs.Common.{◌≡◌, ℕ, Bool, true, false, not, cond, refl, ap, ◌∙◌}
use Rattle.std.specs.Prelude.{nat_lt, ◌||◌, if◌then◌else◌}
use Rattle.gate_types.specs.declared.records.Change.{Change}
use Rattle.gate_types.specs.declared.deliveries.Reply.TheVariants as reply
use Rattle.gate_types.specs.State.{State, is_open}
use Rattle.gate_types.specs.Step.{Stepped, accepted, on_known}
use Rattle.gate_ruling.specs.Guards.{unless_past, OthersDecide}

-- stale where the change isn't open, else as the other lines say
abbrev pub unless_closed : State → (Change → Stepped) → Change → Stepped
unless_closed s f k = if not (is_open k) then accepted reply.Stale s else f k

either : {X : Type 0} (a b : Bool) (x y : X) → cond (a || b) x y ≡ cond a x (cond b x y)
either true b x y = refl
either false b x y = refl

-- the line of `approved` and of `closed` on what is past is these two
pub past_or_closed : (s : State) (n r : ℕ) (f : Change → Stepped) →
    on_known s n r (λ k. if nat_lt r k.revision || not (is_open k) then accepted reply.Stale s else f k)
    ≡ on_known s n r (unless_past s r (unless_closed s f))
past_or_closed s n r f =
    λ i. on_known s n r (λ k. either (nat_lt r k.revision) (not (is_open k)) (accepted reply.Stale s) (f k) i)

pub open_goes : (s : State) (n r : ℕ) (k : Change) (f : Change → Stepped) → OthersDecide s n r k → is_open k ≡ true →
    on_known s n r (λ k. if nat_lt r k.revision || not (is_open k) then accepted reply.Stale s else f k) ≡ f k
open_goes s n r k f goes opens =
    past_or_closed s n r f
    ∙ goes (unless_closed s f)
    ∙ ap (λ b. cond (not b) (accepted reply.Stale s) (f k)) opens

pub closed_stale : (s : State) (n r : ℕ) (k : Change) (f : Change → Stepped) → OthersDecide s n r k → is_open k ≡ false →
    on_known s n r (λ k. if nat_lt r k.revision || not (is_open k) then accepted reply.Stale s else f k)
    ≡ accepted reply.Stale s
closed_stale s n r k f goes ended =
    past_or_closed s n r f
    ∙ goes (unless_closed s f)
    ∙ ap (λ b. cond (not b) (accepted reply.Stale s) (f k)) ended

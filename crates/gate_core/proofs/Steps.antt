-- From what a delivery comes to before settling, to its step.
use Rattle.std.proofs.Common.{◌≡◌, true, false, cond, ap, ◌∙◌}
use Rattle.gate_types.specs.declared.deliveries.Delivery.{Delivery}
use Rattle.gate_types.specs.declared.deliveries.Reply.{Reply}
use Rattle.gate_types.specs.declared.deliveries.Refusal.TheVariants as refusal
use Rattle.gate_types.specs.Settings.{Settings}
use Rattle.gate_types.specs.State.{State}
use Rattle.gate_types.specs.Settle.{settle}
use Rattle.gate_types.specs.Step.{raw_step, settled_step, step, accepted, refused, is_exhausted}
use Rattle.gate_types.specs.Lawful.{IsLawful}

-- a delivery that is accepted and changes nothing leaves the lawful state that was
pub stands_steps : (c : Settings) (s : State) (d : Delivery) (r : Reply) → IsLawful c s →
    raw_step c s d ≡ accepted r s → step c s d ≡ accepted r s
stands_steps c s d r lawful e =
    ap (settled_step c) e
    ∙ ap (λ t. cond (is_exhausted t) (refused refusal.Exhausted) (accepted r t)) lawful.settled
    ∙ ap (λ b. cond b (refused refusal.Exhausted) (accepted r s)) lawful.not_exhausted

pub moved_steps : (c : Settings) (s t : State) (d : Delivery) (r : Reply) → raw_step c s d ≡ accepted r t →
    is_exhausted (settle c t) ≡ false → step c s d ≡ accepted r (settle c t)
moved_steps c s t d r e fits =
    ap (settled_step c) e ∙ ap (λ b. cond b (refused refusal.Exhausted) (accepted r (settle c t))) fits

pub exhausted_steps : (c : Settings) (s t : State) (d : Delivery) (r : Reply) → raw_step c s d ≡ accepted r t →
    is_exhausted (settle c t) ≡ true → step c s d ≡ refused refusal.Exhausted
exhausted_steps c s t d r e past =
    ap (settled_step c) e ∙ ap (λ b. cond b (refused refusal.Exhausted) (accepted r (settle c t))) past

-- What lands by a call, and what becomes of the orders that are shown.
use Rattle.std.specs.Prelude.{◌≡◌, ℕ, true, false, ◌&&◌, None, All, Contains, ◌⊎◌}
use Rattle.gate_types.specs.declared.deliveries.Answer.{Answer}
use Rattle.gate_types.specs.declared.deliveries.Answer.TheVariants as answer
use Rattle.gate_types.specs.declared.deliveries.Refusal.TheVariants as refusal
use Rattle.gate_types.specs.Settings.{Settings}
use Rattle.gate_types.specs.SubmitOrder.{Order, orders}
use Rattle.gate_types.specs.Evidence.{IsShown}
use Rattle.gate_types.specs.Lawful.{IsDistinct, landed_changes}
use Rattle.gate_types.specs.Once.{Content, Call, kept_for, next_content, acts}
use Rattle.gate_laws.specs.Orders.{answers_order, IsStillShown, is_order_shown}

-- no change has landed twice; each landing's builds ran on the landings before it, then itself; a shown order stays
-- unless this call answered it; and under a new id an order that isn't shown can't be answered
pub record LandsRightly (c : Settings) (x : Content) (k : Call) (a : Answer) : Type 0 where
  pub once : IsDistinct (landed_changes (next_content c x k).state)
  pub evidence : All (λ q. (n : ℕ) → IsShown c (next_content c x k).state q n) (next_content c x k).state.queues
  pub stays : (o : Order) → Contains (orders c x.state) o →
      acts c x k && answers_order k.delivery o.item.serial ≡ false → IsStillShown c (next_content c x k).state o
  pub unshown : kept_for k.id x.kept ≡ None → (n : ℕ) → is_order_shown c x.state n ≡ false →
      answers_order k.delivery n ≡ true →
      (a ≡ answer.Refused refusal.NoOrder) ⊎ (a ≡ answer.Refused refusal.Unavailable)

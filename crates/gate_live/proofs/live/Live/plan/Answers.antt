use Rattle.std.proofs.Common.{◌≡◌, List, Some, sym, subst}
use Rattle.std.specs.Prelude.{◌==◌, find}
use Rattle.gate_types.specs.Once.{Content}
use Rattle.gate_types.specs.Settings.{Settings}
use Rattle.gate_types.specs.declared.records.Plan.{Plan}
use Rattle.gate_book_trait.specs.Reads as read
use Rattle.gate_book_trait.proofs.ReadLemmas.{weaker_if}
use Rattle.gate_live.specs.HeldPlans.{ArePlansOf, plans_held}
use Rattle.gate_live.specs.Parts.{Agrees, Parts}
use Rattle.gate_live.proofs.live.Live.plan.Goals as goal

pub returns : goal.returns
returns c =
    let serial = c.args.serial in
    weaker_if (λ (plan : Plan). (all : List Plan) → ArePlansOf (plans_held c.self.inside.plans) all → Some plan ≡ find (λ p. p.serial == serial) all)
    (λ (plan : Plan). (k : Settings) (x : Content) → Agrees c.args.self.now k x → Some plan ≡ read.plan_at x.state serial)
    (λ plan told k x agrees. told x.state.plans (subst (λ (p : Parts). ArePlansOf p.plans x.state.plans) (sym c.self.view_is) agrees.plans))
    c.plan.result c.plan.ensures

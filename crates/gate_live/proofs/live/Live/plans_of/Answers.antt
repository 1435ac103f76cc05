use Rattle.std.proofs.Common.{◌≡◌, List, sym, subst}
use Rattle.gate_types.specs.Once.{Content}
use Rattle.gate_types.specs.Settings.{Settings}
use Rattle.gate_types.specs.declared.records.Plan.{Plan}
use Rattle.gate_book_trait.specs.Reads as read
use Rattle.gate_book_trait.specs.RowReads.{plans_of_rows}
use Rattle.gate_book_trait.proofs.ReadLemmas.{weaker_if}
use Rattle.gate_live.specs.HeldPlans.{ArePlansOf, plans_held}
use Rattle.gate_live.specs.Parts.{Agrees, Parts}
use Rattle.gate_live.proofs.live.Live.plans_of.Goals as goal

pub returns : goal.returns
returns c =
    let items = c.args.items.now in
    weaker_if (λ (found : List Plan). (all : List Plan) → ArePlansOf (plans_held c.self.inside.plans) all → found ≡ plans_of_rows all items)
    (λ (found : List Plan). (k : Settings) (x : Content) → Agrees c.args.self.now k x → found ≡ read.plans_of_items x.state items)
    (λ found told k x agrees. told x.state.plans (subst (λ (p : Parts). ArePlansOf p.plans x.state.plans) (sym c.self.view_is) agrees.plans))
    c.of_items.result c.of_items.ensures

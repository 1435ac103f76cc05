use Rattle.std.proofs.Common.{◌∙◌, List, sym, subst}
use Rattle.gate_types.specs.State.{put_by}
use Rattle.gate_types.specs.Keys.{serial_of_plan}
use Rattle.gate_types.specs.declared.records.Plan.{Plan}
use Rattle.gate_live.specs.HeldPlans.{ArePlansOf, plans_held}
use Rattle.gate_live.proofs.HeldPlanLemmas.{plans_more}
use Rattle.gate_live.proofs.held_plans.HeldPlans.hold_one.Goals as goal

pub returns-in-Ok-clause-held : goal.returns-in-Ok-clause-held
returns-in-Ok-clause-held c all n found held =
    let p = c.args.plan.now in
    let rows = plans_held c.args.self.now in
    subst (λ (ps : List Plan). ArePlansOf ps all)
    (sym (c.put.ensures.rows ∙ (λ i. put_by serial_of_plan (c.in-Ok.ensures.copy i) (c.copy_for.ensures.rows i))))
    (plans_more rows all p n found held)

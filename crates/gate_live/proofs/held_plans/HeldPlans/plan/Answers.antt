use Rattle.gate_live.specs.HeldPlans.{plans_held}
use Rattle.gate_live.proofs.HeldPlanLemmas.{plan_read_maybe}
use Rattle.gate_live.proofs.held_plans.HeldPlans.plan.Goals as goal

pub returns-in-Ok : goal.returns-in-Ok
returns-in-Ok c = plan_read_maybe (plans_held c.args.self.now) c.args.serial c.in-Ok.found c.in-Ok.ensures

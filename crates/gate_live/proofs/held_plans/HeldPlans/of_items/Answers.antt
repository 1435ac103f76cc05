use Rattle.std.proofs.Common.{◌∙◌}
use Rattle.gate_live.specs.HeldPlans.{plans_held}
use Rattle.gate_live.proofs.HeldPlanLemmas.{plans_read_each}
use Rattle.gate_live.proofs.held_plans.HeldPlans.of_items.Goals as goal

pub returns-in-Ok : goal.returns-in-Ok
returns-in-Ok c all held = c.in-Ok.ensures ∙ plans_read_each (plans_held c.args.self.now) all c.args.items.now held (c.has_all.ensures c.if-not-has_all.false)

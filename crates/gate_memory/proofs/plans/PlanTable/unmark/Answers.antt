use Rattle.std.proofs.Common.{refl, subst, sym}
use Rattle.gate_types.specs.Keys.{serial_of_plan}
use Rattle.gate_types.specs.Rising.{RisesFrom}
use Rattle.gate_types.specs.Tables.{unmarked}
use Rattle.gate_memory.proofs.SortedLemmas.{rises-changed}
use Rattle.gate_memory.proofs.plans.PlanTable.unmark.Goals as goal

pub returns-clause-kept : goal.returns-clause-kept
returns-clause-kept c =
    subst (RisesFrom serial_of_plan 0) (sym c.unmark.ensures.rows)
    (rises-changed serial_of_plan c.args.serial unmarked 0 c.args.self.now.rows.items (λ p. refl) c.requires)

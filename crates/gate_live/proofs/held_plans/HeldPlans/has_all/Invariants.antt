use Rattle.std.proofs.Common.{◌≡◌, true, take}
use Rattle.std.specs.Prelude.{◌==◌, find, is_some}
use Rattle.std.specs.List.{AllByRecursion}
use Rattle.gate_live.specs.HeldPlans.{plans_held}
use Rattle.gate_live.proofs.held_plans.HeldPlans.has_all.Given as goal

abbrev pub invariant-loop-item : goal.invariant-loop-item
invariant-loop-item l = AllByRecursion (λ i. is_some (find (λ p. p.serial == i.serial) (plans_held l.self)) ≡ true) (take l.item-index l.items)

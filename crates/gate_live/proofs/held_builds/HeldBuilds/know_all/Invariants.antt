use Rattle.std.proofs.Common.{◌≡◌, true, take}
use Rattle.std.specs.List.{AllByRecursion}
use Rattle.gate_live.specs.HeldBuilds.{known_of, knows}
use Rattle.gate_live.proofs.held_builds.HeldBuilds.know_all.Given as goal

abbrev pub invariant-loop-item : goal.invariant-loop-item
invariant-loop-item l = AllByRecursion (λ i. knows (known_of l.self).known i.serial ≡ true) (take l.item-index l.items)

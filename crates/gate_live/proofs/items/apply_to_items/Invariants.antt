use Rattle.std.proofs.Common.{◌≡◌, length}
use Rattle.std.specs.Prelude.{option_map}
use Rattle.std.specs.Vec.Iter.{into_iter_items}
use Rattle.gate_live.specs.Held.{live_of}
use Rattle.gate_live.specs.HeldBuilds.{AreBuildsKept, HaveBuildRoom, fold_held, known_of}
use Rattle.gate_live.specs.HeldPlans.{ArePlansKept, HavePlanRoom, fold_held_plans, plans_held}
use Rattle.gate_live.specs.Parts.{holds_item}
use Rattle.gate_live.proofs.items.apply_to_items.Given as goal

abbrev pub invariant-loop-edit : goal.invariant-loop-edit
invariant-loop-edit l = record {
  builds_kept : AreBuildsKept l.builds;
  plans_kept : ArePlansKept l.plans;
  build_room : HaveBuildRoom (length (into_iter_items l.edit-iterator)) l.builds;
  plan_room : HavePlanRoom (length (into_iter_items l.edit-iterator)) l.plans;
  builds : fold_held (known_of l.builds) (into_iter_items l.edit-iterator) ≡ fold_held (known_of l.fn.builds) (into_iter_items l.initial.edit-iterator);
  plans : fold_held_plans (holds_item (option_map live_of l.held)) (plans_held l.plans) (into_iter_items l.edit-iterator)
      ≡ fold_held_plans (holds_item (option_map live_of l.held)) (plans_held l.fn.plans) (into_iter_items l.initial.edit-iterator);
}

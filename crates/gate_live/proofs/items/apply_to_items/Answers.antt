use Rattle.std.proofs.Common.{◌∙◌, suc, length, ap, sym, List}
use Rattle.std.specs.Prelude.{option_map}
use Rattle.std.specs.Vec.Iter.{into_iter_items}
use Rattle.gate_types.specs.declared.records.Plan.{Plan}
use Rattle.gate_live.specs.Held.{live_of}
use Rattle.gate_live.specs.HeldBuilds.{HaveBuildRoom, KnownBuilds, fold_held, known_of}
use Rattle.gate_live.specs.HeldPlans.{HavePlanRoom, fold_held_plans, plans_held}
use Rattle.gate_live.specs.Parts.{holds_item}
use Rattle.gate_live.proofs.RoomLemmas.{build_room_one, plan_room_one}
use Rattle.gate_live.proofs.items.apply_to_items.Goals as goal

pub apply-requires-clause-build_room : goal.apply-requires-clause-build_room
apply-requires-clause-build_room c =
    let left = into_iter_items c.next.new.self in
    let room : HaveBuildRoom (suc (length left)) c.loop-edit.builds = rw c.in-Some.ensures.steps.0 at c.loop-edit.invariant.build_room in
    build_room_one (length left) c.loop-edit.builds room

pub apply-requires-clause-plan_room : goal.apply-requires-clause-plan_room
apply-requires-clause-plan_room c =
    let left = into_iter_items c.next.new.self in
    let room : HavePlanRoom (suc (length left)) c.loop-edit.plans = rw c.in-Some.ensures.steps.0 at c.loop-edit.invariant.plan_room in
    plan_room_one (length left) c.loop-edit.plans room

pub loop-edit-preserved : goal.loop-edit-preserved
loop-edit-preserved c =
    let before = c.loop-edit.invariant in
    let left = into_iter_items c.next.new.self in
    let steps = c.in-Some.ensures.steps.0 in
    let is_item = holds_item (option_map live_of c.args.held.now) in
    let build_room : HaveBuildRoom (suc (length left)) c.loop-edit.builds = rw steps at before.build_room in
    let plan_room : HavePlanRoom (suc (length left)) c.loop-edit.plans = rw steps at before.plan_room in
    record {
      builds_kept = c.apply.ensures.builds_kept;
      plans_kept = c.apply.ensures.plans_kept;
      build_room = c.apply.ensures.build_room (length left) build_room;
      plan_room = c.apply.ensures.plan_room (length left) plan_room;
      builds = ap (λ (h : KnownBuilds). fold_held h left) c.apply.ensures.builds ∙ sym (ap (fold_held (known_of c.loop-edit.builds)) steps) ∙ before.builds;
      plans = ap (λ (ps : List Plan). fold_held_plans is_item ps left) c.apply.ensures.plans
          ∙ sym (ap (fold_held_plans is_item (plans_held c.loop-edit.plans)) steps) ∙ before.plans;
    }

use Rattle.std.proofs.Common.{List, [], ◌∷◌, ◌++◌, take, sym, ap, ◌∙◌}
use Rattle.std.specs.Prelude.{◌==◌, find, flat_map, option_to_list}
use Rattle.std.proofs.lemmas.List.{take_more, flat_map_more}
use Rattle.gate_types.specs.declared.records.Item.{Item}
use Rattle.gate_types.specs.declared.records.Plan.{Plan}
use Rattle.gate_memory.proofs.collecting.plans_of.Goals as goal

pub loop-item-preserved : goal.loop-item-preserved
loop-item-preserved c =
    let items = c.args.items.now in
    let k = c.loop-item.item-index in
    let i = c.item-item.result in
    let plan_of : Item → List Plan = λ j. option_to_list (find (λ p. p.serial == j.serial) c.args.plans.now.rows.items) in
    c.in_ok-push_plan.ensures ∙ (λ n. c.loop-item.invariant n ++ option_to_list (c.in_ok-get.ensures n))
    ∙ flat_map_more plan_of [] (take k items) i
    ∙ ap (flat_map plan_of) (ap (λ j. take k items ++ j ∷ []) c.item-item.is ∙ sym (take_more items k i c.loop-item-test.true))

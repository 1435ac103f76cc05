use Rattle.std.proofs.Common.{◌∙◌, ap, subst}
use Rattle.std.proofs.lemmas.Result.{err_from_is_err_and}
use Rattle.std.specs.Prelude.{option_map}
use Rattle.gate_types.specs.Keys.{serial_of_plan}
use Rattle.gate_types.specs.Rising.{RisesFrom}
use Rattle.gate_live.specs.Live.{fold_live}
use Rattle.gate_live.specs.Held.{live_of}
use Rattle.gate_live.specs.HeldBuilds.{fold_held, known_of}
use Rattle.gate_live.specs.HeldChanges.{changes_held, queues_held, rows_edited}
use Rattle.gate_live.specs.HeldPlans.{fold_held_plans, plans_held}
use Rattle.gate_live.specs.Parts.{Parts, holds_item}
use Rattle.gate_live.proofs.LiveChangeLemmas.{changes_edited}
use Rattle.gate_live.proofs.PartLemmas.{agrees_after}
use Rattle.gate_live.proofs.live.Live.apply_over.Goals as goal

pub returns-clause-edited : goal.returns-clause-edited
returns-clause-edited g c k x y lawful agrees leads =
    let edits = c.args.edits.now in
    let queues = queues_held c.apply_to.new.held in
    let copies = c.in_ok-copies.ensures in
    let is_item = holds_item (option_map live_of c.apply_to.new.held) in
    let view = c.self.view_is in
    agrees_after k x y edits is_item c.args.self.now
    (record { tables = option_map live_of c.apply_to.new.held; builds = known_of c.apply_to_items.new.builds; plans = plans_held c.apply_to_items.new.plans; changes = option_map changes_held c.edit.new.changes })
    lawful (subst (λ (p : Parts). RisesFrom serial_of_plan 0 p.plans) view c.self.invariant.2)
    (c.in_ok-apply_to.ensures.edited ∙ ap (λ (p : Parts). option_map (λ l. fold_live l edits) p.tables) view)
    (c.apply_to_items.ensures.builds ∙ λ i. fold_held ((c.make_room.ensures.rows ∙ ap (λ (p : Parts). p.builds) view) i) (copies i))
    (c.apply_to_items.ensures.plans ∙ λ i. fold_held_plans is_item ((c.make_room-2.ensures.rows ∙ ap (λ (p : Parts). p.plans) view) i) (copies i))
    (changes_edited k x y queues edits c.args.self.now.changes (option_map changes_held c.edit.new.changes)
    (c.edit.ensures.rows ∙ ap (option_map (rows_edited queues edits)) (c.in_ok-changes.ensures.rows ∙ ap (λ (p : Parts). p.changes) view))
    agrees.changes leads)
    agrees leads

pub returns-in_err-apply_to-clause-applied : goal.returns-in_err-apply_to-clause-applied
returns-in_err-apply_to-clause-applied g c trusted k x holds lawful y after leads =
    let p = err_from_is_err_and c.from_residual-in_err-apply_to.result c.from_residual-in_err-apply_to.ensures.1 in
    rw (p.1, p.2) (c.in_err-apply_to.ensures.applied trusted k x holds lawful y after leads)

pub returns-in_err-apply_to-clause-unchanged : goal.returns-in_err-apply_to-clause-unchanged
returns-in_err-apply_to-clause-unchanged g c trusted k x holds lawful =
    let p = err_from_is_err_and c.from_residual-in_err-apply_to.result c.from_residual-in_err-apply_to.ensures.1 in
    rw (p.1, p.2) (c.in_err-apply_to.ensures.unchanged trusted k x holds lawful)

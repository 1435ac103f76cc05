use Rattle.std.proofs.Common.{◌≤◌, ◌∙◌, arith, length, subst}
use Rattle.std.proofs.lemmas.List.{take_all}
use Rattle.sqlite.specs.Held.{state}
use Rattle.sqlite.specs.State.{HasCleanDisk}
use Rattle.sqlite.proofs.StateLemmas.{survives_then}
use Rattle.gate_rows.proofs.ThenLemmas.{kept_then}
use Rattle.gate_file_changes.specs.Applies.{Steps}
use Rattle.gate_file_changes.proofs.ApplyLemmas.{steps_more, steps_turn}
use Rattle.gate_file_changes.proofs.applying.apply_all.Goals as goal

pub loop-edit-preserved : goal.loop-edit-preserved
loop-edit-preserved g c =
    let first = state g.S.Store c.args.tx.now.conn.now in
    let old = state g.S.Store c.loop-edit.tx.conn.now in
    let new = state g.S.Store c.apply_one.new.tx.conn.now in
    let was = c.loop-edit.invariant in
    record {
      same_reference = c.apply_one.ensures.same_reference ∙ was.same_reference;
      steps = λ clean ready.
          let early : HasCleanDisk old = omega (arith, c.apply_one.ensures.crash.clean) in
          let before = was.steps early ready in
          steps_more c.every_edit_is_told.ensures first old new c.args.edits.now c.loop-edit.edit-index c.edit-item.result (omega arith) c.edit-item.is before
          (c.in_ok-apply_one.ensures.changes clean before.changes.ready) (c.in_ok-apply_one.ensures.fits clean before.changes.ready);
      kept = λ clean ready.
          let early : HasCleanDisk old = omega (arith, c.apply_one.ensures.crash.clean) in
          kept_then first old new (was.kept early ready) (c.apply_one.ensures.kept clean (was.steps early ready).changes.ready);
      crash = survives_then first old new (λ _. ⊥) (λ _. ⊥) (λ _. ⊥) (λ _ _ none. none) (λ _ _ none. none) was.crash c.apply_one.ensures.crash;
    }

pub returns-clause-turns : goal.returns-clause-turns
returns-clause-turns g c clean ready =
    let old = state g.S.Store c.args.tx.now.conn.now in
    let new = state g.S.Store c.loop-edit.tx.conn.now in
    let ended : length c.args.edits.now ≤ c.loop-edit.edit-index = omega arith in
    steps_turn old new c.args.edits.now (subst (Steps old new) (take_all c.loop-edit.edit-index c.args.edits.now ended) (c.loop-edit.invariant.steps clean ready))

pub returns-clause-steps : goal.returns-clause-steps
returns-clause-steps g c clean ready =
    let old = state g.S.Store c.args.tx.now.conn.now in
    let new = state g.S.Store c.loop-edit.tx.conn.now in
    let ended : length c.args.edits.now ≤ c.loop-edit.edit-index = omega arith in
    subst (Steps old new) (take_all c.loop-edit.edit-index c.args.edits.now ended) (c.loop-edit.invariant.steps clean ready)

use Rattle.std.proofs.Common.{◌≡◌, ◌∙◌, ◌+◌, ◌∷◌, [], List, suc, drop, map, ap, sym, arith}
use Rattle.std.specs.Prelude.{fold}
use Rattle.gate_types.specs.declared.edits.Edit.{Edit}
use Rattle.gate_types.specs.declared.rows.ChangeRow.{ChangeRow}
use Rattle.gate_book_trait.proofs.Finding.{rest_at, rest_none}
use Rattle.gate_live.specs.Held.{queue_of}
use Rattle.gate_live.specs.HeldChanges.{changes_held, without_left}
use Rattle.gate_live.proofs.forgetting.forget_left.Goals as goal

pub loop-edit-preserved : goal.loop-edit-preserved
loop-edit-preserved c =
    let queues = map queue_of c.args.queues.now in
    let edits = c.args.edits.now in
    let k = c.loop-edit.edit-index in
    let e = c.edit-item.result in
    let left = drop (suc k) edits in
    let step : suc k ≡ k + 1 = omega arith in
    let here : drop k edits ≡ e ∷ left = rest_at edits k e c.loop-edit-test.true ∙ ap (λ d. d ∷ left) (sym c.edit-item.is) in
    record {
      kept = c.forget_touched.ensures.kept;
      rest = ap (λ n. fold (without_left queues) (changes_held c.forget_touched.new.held) (drop n edits)) (sym step)
          ∙ ap (λ (rows : List ChangeRow). fold (without_left queues) rows left) c.forget_touched.ensures.rows
          ∙ ap (λ (es : List Edit). fold (without_left queues) (changes_held c.loop-edit.held) es) (sym here)
          ∙ c.loop-edit.invariant.rest;
    }

pub returns-clause-rows : goal.returns-clause-rows
returns-clause-rows c =
    let queues = map queue_of c.args.queues.now in
    let none : drop c.loop-edit.edit-index c.args.edits.now ≡ [] = rest_none c.args.edits.now c.loop-edit.edit-index c.loop-edit-test.false in
    sym (ap (λ (es : List Edit). fold (without_left queues) (changes_held c.loop-edit.held) es) none) ∙ c.loop-edit.invariant.rest

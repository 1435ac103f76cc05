use Rattle.std.proofs.Common.{◌≡◌, ◌∙◌, ◌+◌, ◌∷◌, [], suc, length, drop, ap, sym, subst, arith}
use Rattle.gate_book_trait.proofs.Finding.{rest_at, rest_none}
use Rattle.gate_live.specs.Live.{LiveTables, fold_live}
use Rattle.gate_live.specs.Held.{HasRoomInEach, live_of}
use Rattle.gate_live.proofs.HeldLemmas.{room_one}
use Rattle.gate_live.proofs.held.Held.apply_all.Goals as goal

pub apply-requires-clause-room : goal.apply-requires-clause-room
apply-requires-clause-room c =
    let edits = c.args.edits.now in
    let k = c.loop-edit.edit-index in
    let e = c.edit-item.result in
    let left = drop (suc k) edits in
    let here : drop k edits ≡ e ∷ left = rest_at edits k e c.loop-edit-test.true ∙ ap (λ d. d ∷ left) (sym c.edit-item.is) in
    let room : HasRoomInEach (suc (length left)) c.loop-edit.self = subst (λ es. HasRoomInEach (length es) c.loop-edit.self) here c.loop-edit.invariant.room in
    room_one (length left) c.loop-edit.self room

pub loop-edit-preserved : goal.loop-edit-preserved
loop-edit-preserved c =
    let edits = c.args.edits.now in
    let k = c.loop-edit.edit-index in
    let e = c.edit-item.result in
    let left = drop (suc k) edits in
    let step : suc k ≡ k + 1 = omega arith in
    let here : drop k edits ≡ e ∷ left = rest_at edits k e c.loop-edit-test.true ∙ ap (λ d. d ∷ left) (sym c.edit-item.is) in
    let room : HasRoomInEach (suc (length left)) c.loop-edit.self = subst (λ es. HasRoomInEach (length es) c.loop-edit.self) here c.loop-edit.invariant.room in
    record {
      kept = c.apply.ensures.kept;
      room = subst (λ n. HasRoomInEach (length (drop n edits)) c.apply.new.self) step (c.apply.ensures.room (length left) room);
      rest = ap (λ n. fold_live (live_of c.apply.new.self) (drop n edits)) (sym step)
          ∙ ap (λ (l : LiveTables). fold_live l left) c.apply.ensures.rows
          ∙ ap (λ es. fold_live (live_of c.loop-edit.self) es) (sym here)
          ∙ c.loop-edit.invariant.rest;
    }

pub returns-clause-rows : goal.returns-clause-rows
returns-clause-rows c =
    let edits = c.args.edits.now in
    let none : drop c.loop-edit.edit-index edits ≡ [] = rest_none edits c.loop-edit.edit-index c.loop-edit-test.false in
    sym (ap (λ es. fold_live (live_of c.loop-edit.self) es) none) ∙ c.loop-edit.invariant.rest

use Rattle.std.proofs.Common.{◌≡◌, ◌∙◌, ◌+◌, ◌∷◌, suc, length, drop, ap, sym, subst, arith}
use Rattle.std.proofs.lemmas.List.{take_all}
use Rattle.gate_types.specs.declared.edits.Edit.TheVariants as edit
use Rattle.gate_book_trait.proofs.Finding.{rest_at}
use Rattle.gate_live.specs.Live.{edited_live_queue}
use Rattle.gate_live.specs.Held.{HasRoomIn}
use Rattle.gate_live.proofs.HeldLemmas.{queue_one}
use Rattle.gate_live.proofs.FilledLemmas.{with_items, one_more}
use Rattle.gate_live.proofs.filling.queue_with.Goals as goal

pub apply-requires-clause-room : goal.apply-requires-clause-room
apply-requires-clause-room c =
    let items = c.args.items.now in
    let k = c.loop-item.item-index in
    let i = c.item-item.result in
    let left = drop (suc k) items in
    let here : drop k items ≡ i ∷ left = rest_at items k i c.loop-item-test.true ∙ ap (λ d. d ∷ left) (sym c.item-item.is) in
    let room : HasRoomIn (suc (length left)) c.loop-item.queue = subst (λ es. HasRoomIn (length es) c.loop-item.queue) here c.loop-item.invariant.room in
    queue_one (length left) c.loop-item.queue room

pub loop-item-preserved : goal.loop-item-preserved
loop-item-preserved c =
    let items = c.args.items.now in
    let name = c.args.name.now in
    let k = c.loop-item.item-index in
    let i = c.item-item.result in
    let q = c.in_ok-told.told in
    let left = drop (suc k) items in
    let step : suc k ≡ k + 1 = omega arith in
    let here : drop k items ≡ i ∷ left = rest_at items k i c.loop-item-test.true ∙ ap (λ d. d ∷ left) (sym c.item-item.is) in
    let room : HasRoomIn (suc (length left)) c.loop-item.queue = subst (λ es. HasRoomIn (length es) c.loop-item.queue) here c.loop-item.invariant.room in
    record {
      kept = c.apply.ensures.kept;
      room = subst (λ n. HasRoomIn (length (drop n items)) c.apply.new.self) step (c.apply.ensures.room (length left) room);
      rows = λ rise. c.apply.ensures.rows
          ∙ ap (edited_live_queue (edit.PutItem q i)) (c.loop-item.invariant.rows rise)
          ∙ one_more name c.args.window c.args.landings c.args.reports k items q i c.in_ok-told.ensures rise c.loop-item-test.true c.item-item.is;
    }

pub returns-clause-rows : goal.returns-clause-rows
returns-clause-rows c rise =
    c.loop-item.invariant.rows rise
    ∙ ap (with_items c.args.name.now c.args.window c.args.landings c.args.reports) (take_all c.loop-item.item-index c.args.items.now c.loop-item-test.false)

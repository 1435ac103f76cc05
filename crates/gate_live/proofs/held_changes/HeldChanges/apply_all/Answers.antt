use Rattle.std.proofs.Common.{◌∙◌, ◌+◌, suc, length, ap, sym}
use Rattle.std.specs.Vec.Iter.{into_iter_items}
use Rattle.gate_memory.specs.Needs.{needs_brought, needs_of_all}
use Rattle.gate_live.specs.HeldChanges.{HasRoomFor, changes_held, fold_rows}
use Rattle.gate_live.proofs.ChangeEditLemmas.{room_one}
use Rattle.gate_live.proofs.held_changes.HeldChanges.apply_all.Goals as goal

pub apply-requires-clause-room : goal.apply-requires-clause-room
apply-requires-clause-room c =
    let left = into_iter_items c.next.new.self in
    let needs = needs_brought c.in-Some.edit in
    let room : HasRoomFor (suc (length left)) (needs + needs_of_all left) c.loop-edit.self = rw c.in-Some.ensures.steps.0 at c.loop-edit.invariant.room in
    room_one (length left) needs (needs_of_all left) c.loop-edit.self.table room

pub loop-edit-preserved : goal.loop-edit-preserved
loop-edit-preserved c =
    let before = c.loop-edit.invariant in
    let left = into_iter_items c.next.new.self in
    let needs = needs_brought c.in-Some.edit in
    let room : HasRoomFor (suc (length left)) (needs + needs_of_all left) c.loop-edit.self = rw c.in-Some.ensures.steps.0 at before.room in
    record {
      kept = c.apply.ensures.kept;
      room = c.apply.ensures.room (length left) (needs_of_all left) room;
      rest = ap (λ rows. fold_rows rows left) c.apply.ensures.rows ∙ sym (ap (fold_rows (changes_held c.loop-edit.self)) c.in-Some.ensures.steps.0) ∙ before.rest;
    }

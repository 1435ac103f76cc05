use Rattle.std.proofs.Common.{◌∙◌, ◌+◌, suc, length, ap, sym}
use Rattle.std.specs.Vec.Iter.{into_iter_items}
use Rattle.gate_types.specs.Tables.{fold_all}
use Rattle.gate_memory.specs.Needs.{needs_brought, needs_of_all}
use Rattle.gate_book.specs.Memory.{HasRoomInAll, tables_of}
use Rattle.gate_book.proofs.MemoryLemmas.{room_one}
use Rattle.gate_book.proofs.tables.MemTables.apply_all.Goals as goal

pub apply-requires-clause-room : goal.apply-requires-clause-room
apply-requires-clause-room c =
    let left = into_iter_items c.next.new.self in
    let edit = c.in-Some.edit in
    let room : HasRoomInAll (suc (length left)) (needs_brought edit + needs_of_all left) c.loop-edit.self = rw c.in-Some.ensures.steps.0 at c.loop-edit.invariant.room in
    room_one (length left) (needs_brought edit) (needs_of_all left) c.loop-edit.self room

pub loop-edit-preserved : goal.loop-edit-preserved
loop-edit-preserved c =
    let before = c.loop-edit.invariant in
    let left = into_iter_items c.next.new.self in
    let edit = c.in-Some.edit in
    let room : HasRoomInAll (suc (length left)) (needs_brought edit + needs_of_all left) c.loop-edit.self = rw c.in-Some.ensures.steps.0 at before.room in
    record {
      kept = c.apply.ensures.kept;
      room = c.apply.ensures.room (length left) (needs_of_all left) room;
      rest = ap (λ t. fold_all t left) c.apply.ensures.rows ∙ sym (ap (fold_all (tables_of c.loop-edit.self)) c.in-Some.ensures.steps.0) ∙ before.rest;
    }

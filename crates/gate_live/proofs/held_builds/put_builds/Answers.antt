use Rattle.std.proofs.Common.{◌∙◌, suc, length, ap, sym}
use Rattle.std.specs.Vec.Iter.{into_iter_items}
use Rattle.gate_memory.specs.Builds.{HaveRoom}
use Rattle.gate_live.specs.HeldBuilds.{put_in_turn}
use Rattle.gate_live.proofs.RoomLemmas.{table_room_one}
use Rattle.gate_live.proofs.held_builds.put_builds.Goals as goal

pub put-requires-clause-room : goal.put-requires-clause-room
put-requires-clause-room c =
    let left = into_iter_items c.next.new.self in
    let room : HaveRoom (suc (length left)) c.loop-build.builds = rw c.in-Some.ensures.steps.0 at c.loop-build.invariant.room in
    table_room_one (length left) c.loop-build.builds room

pub loop-build-preserved : goal.loop-build-preserved
loop-build-preserved c =
    let before = c.loop-build.invariant in
    let left = into_iter_items c.next.new.self in
    let room : HaveRoom (suc (length left)) c.loop-build.builds = rw c.in-Some.ensures.steps.0 at before.room in
    record {
      kept = c.put.ensures.kept;
      room = c.put.ensures.room (length left) room;
      rest = ap (put_in_turn left) c.put.ensures.rows ∙ sym (ap (λ bs. put_in_turn bs c.loop-build.builds.rows.items) c.in-Some.ensures.steps.0) ∙ before.rest;
    }

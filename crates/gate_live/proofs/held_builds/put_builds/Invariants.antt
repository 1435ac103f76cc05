use Rattle.std.proofs.Common.{◌≡◌, length}
use Rattle.std.specs.Vec.Iter.{into_iter_items}
use Rattle.gate_memory.specs.Builds as build_table
use Rattle.gate_live.specs.HeldBuilds.{put_in_turn}
use Rattle.gate_live.proofs.held_builds.put_builds.Given as goal

abbrev pub invariant-loop-build : goal.invariant-loop-build
invariant-loop-build l = record {
  kept : build_table.IsKeptBuildTable l.builds;
  room : build_table.HaveRoom (length (into_iter_items l.build-iterator)) l.builds;
  rest : put_in_turn (into_iter_items l.build-iterator) l.builds.rows.items ≡ put_in_turn (into_iter_items l.initial.build-iterator) l.fn.builds.rows.items;
}

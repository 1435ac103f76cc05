use Rattle.std.proofs.Common.{◌≡◌, ◌++◌, take}
use Rattle.gate_walk.specs.Walk.{stops_of}
use Rattle.gate_walk.proofs.told.push_stops.Given as goal

abbrev pub invariant-loop-build : goal.invariant-loop-build
invariant-loop-build l = l.edits ≡ l.fn.edits ++ stops_of l.resets l.over (take l.build-index l.builds)

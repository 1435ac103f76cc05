use Rattle.std.proofs.Common.{◌≡◌, take}
use Rattle.gate_live.proofs.held_builds.copies.Given as goal

abbrev pub invariant-loop-build : goal.invariant-loop-build
invariant-loop-build l = l.copies.items ≡ take l.build-index l.builds

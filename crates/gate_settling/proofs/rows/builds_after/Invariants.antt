use Rattle.std.proofs.Common.{◌≡◌, map, take}
use Rattle.gate_settling.specs.Rows.{build_now}
use Rattle.gate_settling.proofs.rows.builds_after.Given as goal

abbrev pub invariant-loop-build : goal.invariant-loop-build
invariant-loop-build l = l.builds.items ≡ map (build_now l.event) (take l.build-index l.live)

use Rattle.std.proofs.Common.{◌≡◌, ◌++◌, take}
use Rattle.std.specs.List.{filter_map}
use Rattle.gate_memory.specs.Sorted.{passing_at}
use Rattle.gate_memory.specs.Builds.{number_of_build, is_live_of}
use Rattle.gate_memory.proofs.builds.add_live.Given as goal

abbrev pub invariant-loop-pair : goal.invariant-loop-pair
invariant-loop-pair l = l.found ≡ l.fn.found ++ filter_map (λ p. passing_at number_of_build (is_live_of l.fn.serial) l.rows p.second) (take l.pair-index l.pairs)

use Rattle.std.proofs.Common.{◌≡◌, map, length}
use Rattle.gate_types.specs.Settings.{are_distinct}
use Rattle.gate_types.proofs.sound.are_distinct.Given as goal

-- the answer is that for the rest
abbrev pub invariant-loop-first : goal.invariant-loop-first
invariant-loop-first g l = are_distinct (map g.T.Named.named l.values) ≡ are_distinct (map g.T.Named.named l.rest)

abbrev pub decreases-loop-first : goal.decreases-loop-first
decreases-loop-first g l = length l.rest

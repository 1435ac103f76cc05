use Rattle.std.proofs.Common.{◌≡◌, map, length}
use Rattle.toml.specs.View.{view}
use Rattle.gate_config.specs.Rules.{has_double}
use Rattle.gate_config.proofs.rules.has_double.Given as goal

-- the answer is that for the rest
abbrev pub invariant-loop-first : goal.invariant-loop-first
invariant-loop-first l = has_double (map view l.values) ≡ has_double (map view l.rest)

abbrev pub decreases-loop-first : goal.decreases-loop-first
decreases-loop-first l = length l.rest

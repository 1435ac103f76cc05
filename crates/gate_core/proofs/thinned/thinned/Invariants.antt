use Rattle.std.specs.Prelude.{vec_len}
use Rattle.gate_core.proofs.Thinning.{Thinning}
use Rattle.gate_core.proofs.thinned.thinned.Given as goal

abbrev pub invariant-loop-edit : goal.invariant-loop-edit
invariant-loop-edit l = Thinning l.newly_ready l.fn.edits.items l.rest.items l.all.items l.later

abbrev pub decreases-loop-edit : goal.decreases-loop-edit
decreases-loop-edit l = vec_len l.rest

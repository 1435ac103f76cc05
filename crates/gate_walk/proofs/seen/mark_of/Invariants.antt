use Rattle.std.proofs.Common.{◌≡◌, drop}
use Rattle.gate_walk.specs.Walk.{mark_of}
use Rattle.gate_walk.proofs.seen.mark_of.Given as goal

abbrev pub invariant-loop-mark : goal.invariant-loop-mark
invariant-loop-mark l = mark_of (drop l.mark-index l.marks) l.change l.standing ≡ mark_of l.marks l.change l.standing

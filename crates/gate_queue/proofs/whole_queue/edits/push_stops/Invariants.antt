use Rattle.std.proofs.Common.{◌≡◌, ◌++◌, take}
use Rattle.gate_queue.specs.WholeQueue.Facts.{place_in_context}
use Rattle.gate_queue_rules.specs.Edits.{stop_edits}
use Rattle.gate_queue.proofs.whole_queue.edits.push_stops.Given as goal

abbrev pub invariant-loop-build : goal.invariant-loop-build
invariant-loop-build l = l.edits ≡ l.fn.edits ++ stop_edits (take l.build-index l.builds) (place_in_context l.context) l.over

use Rattle.std.proofs.Common.{◌≡◌, take}
use Rattle.gate_types.specs.Slot.{outcomes_of}
use Rattle.gate_queue.specs.WholeQueue.Facts.{place_in_context}
use Rattle.gate_queue.proofs.whole_queue.slots.outcomes_of.Given as goal

abbrev pub invariant-loop-build : goal.invariant-loop-build
invariant-loop-build l = l.found.items ≡ outcomes_of (take l.build-index l.builds) (place_in_context l.context) l.job

use Rattle.std.proofs.Common.{◌≡◌, take}
use Rattle.std.specs.Prelude.{◌&&◌}
use Rattle.std.specs.List.{list_any, list_all}
use Rattle.gate_types.specs.Slot.{raw_slot_of, is_failed_slot, is_finished}
use Rattle.gate_queue.specs.WholeQueue.Facts.{place_in_context}
use Rattle.gate_queue.proofs.whole_queue.slots.marks_of.Given as goal

abbrev pub invariant-loop-job : goal.invariant-loop-job
invariant-loop-job l =
    (l.failed ≡ list_any (λ j. j.voting && is_failed_slot (raw_slot_of l.builds (place_in_context l.context) j)) (take l.job-index l.context.jobs.now)) ×
    (l.decided ≡ list_all (λ j. is_finished (raw_slot_of l.builds (place_in_context l.context) j)) (take l.job-index l.context.jobs.now))

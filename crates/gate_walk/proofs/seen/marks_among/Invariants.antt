use Rattle.std.proofs.Common.{◌≡◌, take}
use Rattle.std.specs.Prelude.{◌&&◌}
use Rattle.std.specs.List.{list_any, list_all}
use Rattle.gate_types.specs.Slot.{is_failed_slot, is_finished}
use Rattle.gate_queue_rules.specs.Outcomes.{slot_among}
use Rattle.gate_walk.proofs.seen.marks_among.Given as goal

abbrev pub invariant-loop-job : goal.invariant-loop-job
invariant-loop-job l =
    (l.failed ≡ list_any (λ j. j.voting && is_failed_slot (slot_among l.builds j)) (take l.job-index l.jobs)) ×
    (l.decided ≡ list_all (λ j. is_finished (slot_among l.builds j)) (take l.job-index l.jobs))

use Rattle.std.proofs.Common.{◌≡◌, take}
use Rattle.std.specs.List.{list_all}
use Rattle.gate_types.specs.Slot.{is_finished}
use Rattle.gate_queue_rules.specs.Outcomes.{slot_among}
use Rattle.gate_reads.proofs.jobs.have_ended.Given as goal

abbrev pub invariant-loop-job : goal.invariant-loop-job
invariant-loop-job l = l.ended ≡ list_all (λ j. is_finished (slot_among l.builds j)) (take l.job-index l.jobs)

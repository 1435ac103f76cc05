use Rattle.std.proofs.Common.{◌≡◌, drop}
use Rattle.std.specs.Prelude.{find}
use Rattle.gate_types.specs.Slot.{is_waiting_slot}
use Rattle.gate_queue_rules.specs.Outcomes.{slot_among}
use Rattle.gate_reads.proofs.jobs.first_waiting.Given as goal

abbrev pub invariant-loop-job : goal.invariant-loop-job
invariant-loop-job l =
    find (λ j. is_waiting_slot (slot_among l.builds j)) l.jobs
    ≡ find (λ j. is_waiting_slot (slot_among l.builds j)) (drop l.job-index l.jobs)

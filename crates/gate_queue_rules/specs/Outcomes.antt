-- What a job has come to by the builds of its item, where each of them counts.
use Rattle.std.specs.Prelude.{List, map, filter}
use Rattle.gate_types.specs.declared.config.Job.{Job}
use Rattle.gate_types.specs.declared.records.Build.{Build}
use Rattle.gate_types.specs.declared.records.Outcome.{Outcome}
use Rattle.gate_types.specs.declared.records.Slot.{Slot}
use Rattle.gate_types.specs.Names.{same_name}
use Rattle.gate_types.specs.Slot.{slot_of_outcomes}

-- the outcomes of the builds of a job
abbrev pub outcomes_among : List Build → Job → List Outcome
outcomes_among builds job = map (λ b. b.outcome) (filter (λ b. same_name b.job job.name) builds)

-- what the job has come to
abbrev pub slot_among : List Build → Job → Slot
slot_among builds job = slot_of_outcomes (outcomes_among builds job)

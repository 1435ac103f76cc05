-- For the inside alone: a choice by live builds, where each of them counts.
use Rattle.std.specs.Prelude.{ℕ, Bool, ◌&&◌, ◌||◌, not, ◌==◌, nat_lt, nat_le, if◌then◌else◌, List, [], ◌∷◌, count_by}
use Rattle.std.specs.Prelude.{Option, Some, None}
use Rattle.std.specs.List.{list_any, position}
use Rattle.gate_types.specs.declared.config.Job.{Job}
use Rattle.gate_types.specs.declared.records.Item.{Item as ItemRow}
use Rattle.gate_types.specs.declared.records.Build.{Build}
use Rattle.gate_types.specs.Limits.{most_tries}
use Rattle.gate_types.specs.Names.{same_name}
use Rattle.gate_types.specs.Slot.{is_success, is_failure, is_lost}
use Rattle.gate_queue.specs.declared.whole_queue.facts.ItemJobs.{ItemJobs}

-- a live build of the job of an item
abbrev pub is_running_of : ℕ → Job → Build → Bool
is_running_of serial job b = b.live && b.serial == serial && same_name b.job job.name

-- all of them are lost, and another try is left
abbrev pub waits : ℕ → List Build → Job → Bool
waits serial builds job =
    not (list_any (λ b. is_running_of serial job b && not (is_lost b.outcome)) builds) &&
    nat_lt (count_by (λ b. is_running_of serial job b && is_lost b.outcome) builds) most_tries

-- none has passed, and one has failed or all tries are lost
abbrev pub job_fails : ℕ → List Build → Job → Bool
job_fails serial builds job =
    not (list_any (λ b. is_running_of serial job b && is_success b.outcome) builds) &&
    (list_any (λ b. is_running_of serial job b && is_failure b.outcome) builds ||
    nat_le most_tries (count_by (λ b. is_running_of serial job b && is_lost b.outcome) builds))

-- an item gets no more builds: it is blocked, or a voting job fails and it is to fail fast
abbrev pub gets_no_more : List Build → ItemRow → ItemJobs → Bool
gets_no_more builds i j = j.blocked || j.fast && list_any (λ k. k.voting && job_fails i.serial builds k) j.jobs.now

-- the first waiting job of an item
abbrev pub waiting_job : List Build → ItemRow → ItemJobs → Option ℕ
waiting_job builds i j = if gets_no_more builds i j then None else position (waits i.serial builds) j.jobs.now

-- the first choice among items with their jobs
abbrev pub choice_by : List Build → List ItemRow → List ItemJobs → Option (ℕ × ℕ)
choice_by builds [] jobs = None
choice_by builds (i ∷ items) [] = None
choice_by builds (i ∷ items) (j ∷ jobs) =
    elim (waiting_job builds i j) [ Some n ↦ Some (i.serial, n) | None ↦ choice_by builds items jobs ]

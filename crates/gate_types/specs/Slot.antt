-- Which builds count for an item, and what its jobs have come to.
use Rattle.std.specs.Prelude.{Bool, true, false, ◌&&◌, ◌||◌, not, ◌==◌, nat_le, if◌then◌else◌, List, map, filter}
use Rattle.std.specs.Prelude.{count_by}
use Rattle.std.specs.List.{list_any, list_all}
use Rattle.gate_types.specs.declared.config.Job.{Job}
use Rattle.gate_types.specs.declared.records.Outcome.{Outcome}
use Rattle.gate_types.specs.declared.records.Slot.{Slot}
use Rattle.gate_types.specs.declared.records.Build.{Build}
use Rattle.gate_types.specs.declared.records.Need.{Need}
use Rattle.gate_types.specs.declared.records.Outcome.TheVariants as outcome
use Rattle.gate_types.specs.declared.records.Slot.TheVariants as slot
use Rattle.gate_types.specs.Limits.{most_tries}
use Rattle.gate_types.specs.Needs.{needs}
use Rattle.gate_types.specs.Names.{same_name}
use Rattle.gate_types.specs.State.{Item, has_change}
use Rattle.gate_types.specs.Line.{Place, same_entries, line, ran_on}

-- it passed
abbrev pub is_success : Outcome → Bool
is_success outcome.Success = true
is_success _ = false

-- it failed
abbrev pub is_failure : Outcome → Bool
is_failure outcome.Failure = true
is_failure _ = false

-- nobody will tell
abbrev pub is_lost : Outcome → Bool
is_lost outcome.Lost = true
is_lost _ = false

-- it has not ended
abbrev pub is_running : Outcome → Bool
is_running outcome.Running = true
is_running _ = false

-- whether each need has landed or is one of these items
abbrev pub are_met_by : List Item → List Need → Bool
are_met_by items needs = list_all (λ n. n.landed || has_change items n.change) needs

-- some need has neither landed nor is a non-failing item before
abbrev pub is_blocked : Place → Bool
is_blocked p = not (are_met_by p.ahead p.needs)

-- a build counts if it is the item's and live, the item isn't blocked, and it ran on the item's line
abbrev pub counts : Place → Build → Bool
counts p b = b.live && b.serial == p.item.serial && not (is_blocked p) && same_entries (ran_on p.landings b) (line p)

-- the outcomes of a job's counting builds
abbrev pub outcomes_of : List Build → Place → Job → List Outcome
outcomes_of builds p job = map (λ b. b.outcome) (filter (λ b. same_name b.job job.name && counts p b) builds)

-- one success makes a success, one failure or three losses a failure
abbrev pub slot_of_outcomes : List Outcome → Slot
slot_of_outcomes os =
    if list_any is_success os then slot.Success else (
    if list_any is_failure os || nat_le most_tries (count_by is_lost os) then slot.Failure else (
    if list_any is_running os then slot.Running else slot.Waiting))

-- one build failed, or three were lost
abbrev pub is_failed_slot : Slot → Bool
is_failed_slot slot.Failure = true
is_failed_slot _ = false

-- no build of the job counts
abbrev pub is_waiting_slot : Slot → Bool
is_waiting_slot slot.Waiting = true
is_waiting_slot _ = false

-- nothing more is to come of the job: a success, a failure, or skipped
abbrev pub is_finished : Slot → Bool
is_finished slot.Success = true
is_finished slot.Failure = true
is_finished slot.Skipped = true
is_finished _ = false

-- what the builds of a job have come to
abbrev pub raw_slot_of : List Build → Place → Job → Slot
raw_slot_of builds p job = slot_of_outcomes (outcomes_of builds p job)

-- a voting job is a failure
abbrev pub has_failure : List Build → Place → Bool
has_failure builds p = list_any (λ j. j.voting && is_failed_slot (raw_slot_of builds p j)) p.jobs

-- an item is cut if it is to fail fast, it isn't blocked, and a voting job is a failure
abbrev pub is_cut : List Build → Place → Bool
is_cut builds p = p.fast && not (is_blocked p) && has_failure builds p

-- what a cut item leaves of a slot
abbrev pub cut_slot : Slot → Slot
cut_slot slot.Running = slot.Skipped
cut_slot slot.Waiting = slot.Skipped
cut_slot x = x

-- what a job of an item has come to
abbrev pub slot_of : List Build → Place → Job → Slot
slot_of builds p job = if is_cut builds p then cut_slot (raw_slot_of builds p job) else raw_slot_of builds p job

-- a build is wanted if it counts, and isn't still running for a cut item
abbrev pub is_wanted : List Build → Place → Build → Bool
is_wanted builds p b = counts p b && not (is_running b.outcome && is_cut builds p)

-- Which build a worker is given.
use Rattle.std.specs.Prelude.{ℕ, true, if◌then◌else◌, ◌+◌, List, [], map, filter, length, slice_get, Option, flat_map}
use Rattle.gate_types.specs.declared.config.Job.{Job}
use Rattle.gate_types.specs.Settings.{Settings}
use Rattle.gate_types.specs.declared.records.Build.{Build}
use Rattle.gate_types.specs.declared.records.Outcome.TheVariants as outcome
use Rattle.gate_types.specs.State.{Queue, State}
use Rattle.gate_types.specs.Line.{Place, item_entry, landings_below}
use Rattle.gate_types.specs.Slot.{is_blocked, slot_of, is_waiting_slot}
use Rattle.gate_types.specs.Standing.{places}
use Rattle.gate_types.specs.Window.{within_window}

-- a build of a job of an item, on what is ahead of it now
abbrev pub build_for : ℕ → Queue → Place → Job → Build
build_for number q p job = record {
  number = number;
  queue = q.name;
  serial = p.item.serial;
  change = p.item.change;
  revision = p.item.revision;
  job = job.name;
  after = length (landings_below p);
  ahead = map item_entry p.ahead;
  outcome = outcome.Running;
  live = true;
}

-- a build for each waiting job of an item that isn't blocked
abbrev pub builds_for : State → Queue → Place → List Build
builds_for s q p =
    if is_blocked p then []
    else map (build_for (s.counters.build + 1) q p) (filter (λ j. is_waiting_slot (slot_of s.builds p j)) p.jobs)

-- the builds that might start in a queue
abbrev pub choices : Settings → State → Queue → List Build
choices c s q = flat_map (builds_for s q) (within_window q.window (places c s q))

-- the first of all
abbrev pub choose : Settings → State → Option Build
choose c s = slice_get (flat_map (choices c s) s.queues) 0

-- How a delivery changes the window of the queue of the item that it touched.
use Rattle.std.specs.Prelude.{ℕ, Option}
use Rattle.std.specs.Option.{option_map_or}
use Rattle.gate_types.specs.declared.config.Queue.{Queue as QueueSetting}
use Rattle.gate_types.specs.declared.records.Verdict.TheVariants as verdict
use Rattle.gate_types.specs.Settings.{default_rule}
use Rattle.gate_types.specs.Window.{Bounds, bounds_by, grow, shrink}
use Rattle.gate_reads.specs.declared.touched.Event.{Event}
use Rattle.gate_reads.specs.declared.touched.Event.TheVariants as event

-- what a queue's settings say of its window, and the defaults where it has none
abbrev pub bounds_if : Option QueueSetting → Bounds
bounds_if settings = option_map_or bounds_by settings (record { floor = 1; rule = default_rule })

-- the window once this befell an item of the queue: a landing grows it, a refusal shrinks it
abbrev pub window_now : Event → Bounds → ℕ → ℕ
window_now event.Landed bounds w = grow w bounds.rule
window_now (event.Left verdict.Refused) bounds w = shrink w bounds.floor bounds.rule
window_now _ bounds w = w

-- How many items of a queue may be tested at once; 0 sets no bound.
use Rattle.std.specs.Prelude.{ℕ, ◌==◌, if◌then◌else◌, min, max, ◌+◌, ◌-◌, ◌*◌, ◌/◌, List, take, find}
use Rattle.std.specs.Option.{option_map_or}
use Rattle.gate_types.specs.declared.config.Queue.{Queue as QueueSetting}
use Rattle.gate_types.specs.declared.config.WindowRule.{WindowRule}
use Rattle.gate_types.specs.declared.config.Pace.TheVariants as pace
use Rattle.gate_types.specs.Settings.{Settings, default_rule}
use Rattle.gate_types.specs.Names.{same_name}
use Rattle.gate_types.specs.State.{Queue}
use Rattle.gate_types.specs.Limits.{most_window}

-- more, by the rule, up to 1,000
abbrev pub grow : ℕ → WindowRule → ℕ
grow w rule = if w == 0 then 0 else min most_window (elim rule.increase [
  | pace.Linear ↦ w + rule.increase_by
  | pace.Exponential ↦ w * rule.increase_by
])

-- less, by the rule, rounded down, and never below the floor
abbrev pub shrink : ℕ → ℕ → WindowRule → ℕ
shrink w floor rule = if w == 0 then 0 else max floor (elim rule.decrease [
  | pace.Linear ↦ w - rule.decrease_by
  | pace.Exponential ↦ w / rule.decrease_by
])

-- the first of a list, as many as the window says, and all of them where it is 0
abbrev pub within_window : {X : Type 0} → ℕ → List X → List X
within_window window xs = if window == 0 then xs else take window xs

-- what the settings say of how a queue's window changes
pub record Bounds : Type 0 where
  pub floor : ℕ
  pub rule : WindowRule

-- by a queue's settings
abbrev pub bounds_by : QueueSetting → Bounds
bounds_by q = record { floor = q.floor; rule = q.rule }

-- the same of a queue, and the defaults where the settings have none of its name
abbrev pub bounds_of : Settings → Queue → Bounds
bounds_of c q = option_map_or bounds_by (find (λ r. same_name r.name q.name) c.queues)
    (record { floor = 1; rule = default_rule })

-- What the tables hold once other settings are adopted.
use Rattle.std.specs.Prelude.{◌≡◌, ℕ, List, [], map, find, Option, Some, None, if◌then◌else◌}
use Rattle.std.specs.Option.{option_map_or}
use Rattle.gate_types.specs.declared.config.Queue.{Queue as QueueSetting}
use Rattle.gate_types.specs.Names.{same_name}
use Rattle.gate_types.specs.Settings.{Settings}
use Rattle.gate_types.specs.Once.{Content}
use Rattle.gate_types.specs.Adopt.{keeps_window, adopted_content}
use Rattle.gate_types.specs.Tables.{QueueRows, Tables, tables}

-- what stands of a queue before its first change
abbrev pub empty_rows : QueueSetting → QueueRows
empty_rows r = record { name = r.name; window = r.window; items = []; landings = []; reports = [] }

-- the window of a queue under its new setting; this was its window, if it was there
abbrev pub adopted_window : Settings → QueueSetting → Option ℕ → ℕ
adopted_window c r None = r.window
adopted_window c r (Some w) = if keeps_window c r then w else r.window

-- what stands of a queue, under its new setting
abbrev pub resized_rows : Settings → QueueSetting → QueueRows → QueueRows
resized_rows c r q = record q { window = adopted_window c r (Some q.window) }

-- what stands of the queue of a setting: of the one of its name, or of a new one
abbrev pub adopted_rows : Settings → List QueueRows → QueueSetting → QueueRows
adopted_rows c queues r =
    option_map_or (resized_rows c r) (find (λ q. same_name q.name r.name) queues) (empty_rows r)

-- the queues in the order of the other settings; all else stays
abbrev pub adopted_tables : Settings → Settings → Tables → Tables
adopted_tables c d t = record t { queues = map (adopted_rows c t.queues) d.queues }

-- the tables of an adopted content are the adopted tables; and no settings are needed to work tables out
pub record TablesAreAdopted : Type 0 where
  pub adopted : (c d : Settings) (x : Content) → tables d (adopted_content c d x) ≡ adopted_tables c d (tables c x)
  pub alike : (c d : Settings) (x : Content) → tables c x ≡ tables d x

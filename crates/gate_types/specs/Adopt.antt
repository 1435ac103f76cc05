-- Other settings adopted: which may be, and what they make of a state.
use Rattle.std.specs.Prelude.{Bool, ◌&&◌, ◌==◌, if◌then◌else◌, map, find}
use Rattle.std.specs.List.{list_any, list_all}
use Rattle.std.specs.Option.{option_map_or}
use Rattle.gate_types.specs.declared.config.Queue.{Queue as QueueSetting}
use Rattle.gate_types.specs.Names.{same_name}
use Rattle.gate_types.specs.Settings.{Settings, has_queue}
use Rattle.gate_types.specs.State.{Queue, State, empty_queue}
use Rattle.gate_types.specs.Once.{Content}

-- the other settings have every queue, and every project with the same queue
abbrev pub may_adopt : Settings → Settings → Bool
may_adopt c d =
    list_all (λ q. has_queue d.queues q.name) c.queues &&
    list_all (λ p. list_any (λ r. same_name r.name p.name && same_name r.queue p.queue) d.projects) c.projects

-- the settings give a queue the same window and the same floor
abbrev pub keeps_window : Settings → QueueSetting → Bool
keeps_window c r = list_any (λ o. same_name o.name r.name && o.window == r.window && o.floor == r.floor) c.queues

-- a queue under its new setting: its present window, or the new one where the window or the floor is another
abbrev pub resized : Settings → QueueSetting → Queue → Queue
resized c r q = if keeps_window c r then q else record q { window = r.window }

-- the queue of a setting: the one of its name, or a new one
abbrev pub adopted_queue : Settings → State → QueueSetting → Queue
adopted_queue c s r = option_map_or (resized c r) (find (λ q. same_name q.name r.name) s.queues) (empty_queue r)

-- the queues in the order of the other settings; all else stays
abbrev pub adopted : Settings → Settings → State → State
adopted c d s = record s { queues = map (adopted_queue c s) d.queues }

-- a content, with its kept deliveries
abbrev pub adopted_content : Settings → Settings → Content → Content
adopted_content c d x = record x { state = adopted c d x.state }

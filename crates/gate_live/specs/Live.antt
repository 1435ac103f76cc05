-- Which rows of a gate's tables are live, and what edits make of them.
use Rattle.std.specs.Prelude.{ℕ, max, if◌then◌else◌, List, [], ◌∷◌, map, fold, find, Option}
use Rattle.std.specs.Option.{option_map_or}
use Rattle.gate_types.specs.declared.records.Item.{Item}
use Rattle.gate_types.specs.declared.edits.Edit.{Edit}
use Rattle.gate_types.specs.declared.edits.Edit.TheVariants as edit
use Rattle.gate_types.specs.Names.{same_name}
use Rattle.gate_types.specs.Counters.{Drawn}
use Rattle.gate_types.specs.Tables.{QueueRows, Tables, edited_queue, edited_counters}
use Rattle.gate_memory.specs.HeldQueues.{LiveQueue}

-- the live rows of all queues, and the counters
pub record LiveTables : Type 0 where
  pub queues : List LiveQueue
  pub counters : Drawn

-- ---- which rows of the tables are live

-- the rows of a queue without its landings and reports
abbrev pub bare : QueueRows → QueueRows
bare q = record q { landings = []; reports = [] }

-- the largest place of these rows, 0 for none: it is their number if they are numbered from 1
abbrev pub last_place : {X : Type 0} → (X → ℕ) → List X → ℕ
last_place place [] = 0
last_place place (x ∷ xs) = max (place x) (last_place place xs)

-- the live rows of a queue
abbrev pub live_queue : QueueRows → LiveQueue
live_queue q = record {
  rows = bare q;
  landings = last_place (λ r. r.place) q.landings;
  reports = last_place (λ r. r.place) q.reports;
}

-- the live rows of all tables
abbrev pub live_tables : Tables → LiveTables
live_tables t = record { queues = map live_queue t.queues; counters = t.counters }

-- ---- what edits make of the live rows

-- the last place of the landings of the queue of this name, after an edit
abbrev pub landings_after : List ℕ → ℕ → Edit → ℕ
landings_after name n (edit.PutLanding queue place l) = if same_name queue name then max place n else n
landings_after name n _ = n

-- the last place of the reports of the queue of this name, after an edit
abbrev pub reports_after : List ℕ → ℕ → Edit → ℕ
reports_after name n (edit.PutReport queue place r) = if same_name queue name then max place n else n
reports_after name n _ = n

-- the live rows of a queue after an edit
abbrev pub edited_live_queue : Edit → LiveQueue → LiveQueue
edited_live_queue e l = record {
  rows = bare (edited_queue e l.rows);
  landings = landings_after l.rows.name l.landings e;
  reports = reports_after l.rows.name l.reports e;
}

-- the live rows of all tables after an edit
abbrev pub edited_live : LiveTables → Edit → LiveTables
edited_live l e = record { queues = map (edited_live_queue e) l.queues; counters = edited_counters l.counters e }

-- the live rows of all tables after a list of edits
abbrev pub fold_live : LiveTables → List Edit → LiveTables
fold_live l edits = fold edited_live l edits

-- ---- lookups in the live rows

-- the live rows of the queue of this name, if there is one
abbrev pub live_named : List LiveQueue → List ℕ → Option LiveQueue
live_named queues name = find (λ l. same_name l.rows.name name) queues

-- the items of the queue of this name; an empty list if there is none
abbrev pub live_items : List LiveQueue → List ℕ → List Item
live_items queues name = option_map_or (λ l. l.rows.items) (live_named queues name) []

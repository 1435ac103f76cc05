-- A queue of two items, settled.
use Rattle.std.specs.Prelude.{ℕ, Bool, true, false, ◌≡◌, List, [], ◌∷◌, Option, Some, None}
use Rattle.gate_types.specs.Settings.{default_rule}
use Rattle.gate_types.specs.declared.config.Job.{Job}
use Rattle.gate_types.specs.declared.records.Build.{Build}
use Rattle.gate_types.specs.declared.records.Entry.{Entry}
use Rattle.gate_types.specs.declared.records.Item.{Item as ItemRow}
use Rattle.gate_types.specs.declared.records.Need.{Need}
use Rattle.gate_types.specs.declared.records.Outcome.{Outcome}
use Rattle.gate_types.specs.declared.records.Outcome.TheVariants as outcome
use Rattle.gate_types.specs.declared.records.Verdict.TheVariants as verdict
use Rattle.gate_types.specs.State.{Item, Queue}
use Rattle.gate_types.specs.Line.{Place}
use Rattle.gate_types.specs.declared.rows.ReportRow.{ReportRow}
use Rattle.gate_types.specs.Rows.{Rows}
use Rattle.gate_laws.specs.Script.{core, unit, docs}
use Rattle.gate_queue_rules.specs.Settled.{settled_rows}

-- a change at its first revision under a serial
abbrev item : ℕ → ℕ → Item
item serial change = record { serial = serial; change = change; revision = 1 }

-- its place, with its needs and jobs
abbrev place : ℕ → ℕ → List Need → List Job → Place
place serial change needs jobs = record {
  landings = [];
  ahead = [];
  item = item serial change;
  needs = needs;
  jobs = jobs;
  fast = false;
}

-- 101 of a project with the jobs `unit` and `docs`, then 102 of one with `unit` alone, with its needs
abbrev two : List Need → List Place
two needs = place 1 101 [] (unit ∷ docs ∷ []) ∷ place 2 102 needs (unit ∷ []) ∷ []

-- a live build of a job of an item
abbrev build : ℕ → ℕ → ℕ → Job → List Entry → Outcome → Bool → Build
build number serial change job ahead outcome live = record {
  number = number;
  queue = core;
  serial = serial;
  change = change;
  revision = 1;
  job = job.name;
  after = 0;
  ahead = ahead;
  outcome = outcome;
  live = live;
}

-- `unit` and `docs` of 101, and `unit` of 102 behind it, with these outcomes; whether the last is live
abbrev runs : Outcome → Outcome → Outcome → Bool → List Build
runs a b c live =
    build 1 1 101 unit [] a true ∷ build 2 1 101 docs [] b true ∷
    build 3 2 102 unit (record { change = 101; revision = 1 } ∷ []) c live ∷ []

-- the rows of the queue `core`
abbrev rows : ℕ → List ItemRow → List Build → List ReportRow → Rows
rows window items builds reports = record {
  name = core;
  window = window;
  items = items;
  builds = builds;
  reports = reports;
}

-- the row of an item
abbrev example_row : ℕ → ℕ → Option ℕ → Bool → ItemRow
example_row serial change ahead failing = record {
  serial = serial;
  change = change;
  revision = 1;
  ahead = ahead;
  failing = failing;
}

-- the queue of the two items under the window 2
abbrev two_item_queue : Queue
two_item_queue = record {
  name = core;
  window = 2;
  landings = [];
  items = item 1 101 ∷ item 2 102 ∷ [];
  reports = [];
}

-- what settling leaves of it
abbrev rows_left : List Need → Outcome → Outcome → Outcome → Rows
rows_left needs a b c =
    settled_rows (record { floor = 1; rule = default_rule }) (two needs) (runs a b c true) two_item_queue

-- one settling of two items
pub record TwoItemsAreSettled : Type 0 where
  pub first_fails : rows_left [] outcome.Failure outcome.Running outcome.Running
      ≡ rows 2 (example_row 1 101 None true ∷ example_row 2 102 None false ∷ [])
      (runs outcome.Failure outcome.Running outcome.Running false) []
  pub first_goes : rows_left [] outcome.Failure outcome.Success outcome.Running
      ≡ rows 1 (example_row 2 102 None false ∷ []) (runs outcome.Failure outcome.Success outcome.Running false)
      (record { place = 1; report = record { serial = 1; change = 101; revision = 1; verdict = verdict.Failed } } ∷ [])
  pub both_go : rows_left (record { change = 101; landed = false } ∷ []) outcome.Failure outcome.Success outcome.Running
      ≡ rows 1 [] (runs outcome.Failure outcome.Success outcome.Running false)
      (record { place = 1; report = record { serial = 1; change = 101; revision = 1; verdict = verdict.Failed } } ∷
      record { place = 2; report = record { serial = 2; change = 102; revision = 1; verdict = verdict.Needs } } ∷ [])
  pub nobody_fails : rows_left [] outcome.Running outcome.Failure outcome.Running
      ≡ rows 2 (example_row 1 101 None false ∷ example_row 2 102 (Some 1) false ∷ [])
      (runs outcome.Running outcome.Failure outcome.Running true) []

-- The edits that settle a queue.
use Rattle.std.specs.List.{AllPass, list_any}
use Rattle.std.specs.Prelude.{ℕ, Bool, false, ◌==◌, ◌&&◌, ◌≡◌, List, map, length}
use Rattle.gate_types.specs.declared.records.Item.{Item as ItemRow}
use Rattle.gate_types.specs.declared.records.Build.{Build}
use Rattle.gate_types.specs.declared.records.Report.{Report}
use Rattle.gate_types.specs.declared.edits.Edit.{Edit}
use Rattle.gate_types.specs.declared.edits.Edit.TheVariants as edit
use Rattle.gate_types.specs.Names.{same_name}
use Rattle.gate_types.specs.State.{Queue}
use Rattle.gate_types.specs.Window.{bounds_by}
use Rattle.gate_types.specs.Rows.{Rows, item_of, numbered_reports, fold_edits}
use Rattle.gate_queue_rules.specs.Settled.{settled_rows}
use Rattle.gate_queue.specs.declared.whole_queue.facts.Facts.{Facts}
use Rattle.gate_queue.specs.WholeQueue.Facts.{places_by}

-- the queue that facts, items and reports tell of
abbrev pub queue_by : Facts → List ItemRow → List Report → Queue
queue_by facts items reports = record {
  name = facts.settings.now.name;
  window = facts.window;
  landings = facts.landings.now;
  items = map item_of items;
  reports = reports;
}

-- its rows as they are stored, whatever their columns say
abbrev pub stored_rows : Facts → List ItemRow → List Build → List Report → Rows
stored_rows facts items builds reports = record {
  name = facts.settings.now.name;
  window = facts.window;
  items = items;
  builds = builds;
  reports = numbered_reports 0 reports;
}

-- an item of this serial is among these
abbrev pub has_item : List ItemRow → ℕ → Bool
has_item items serial = list_any (λ i. i.serial == serial) items

-- a build of this number is among these
abbrev pub has_build : List Build → ℕ → Bool
has_build builds number = list_any (λ b. b.number == number) builds

-- an edit is a queue's own: under its name, of one of its items, or of one of the builds
abbrev pub is_own : List ℕ → List ItemRow → List Build → Edit → Bool
is_own name items builds (edit.PutItem queue i) = same_name queue name && has_item items i.serial
is_own name items builds (edit.DropItem serial) = has_item items serial
is_own name items builds (edit.PutReport queue n r) = same_name queue name && has_item items r.serial
is_own name items builds (edit.StopBuild number) = has_build builds number
is_own name items builds (edit.SetWindow queue w) = same_name queue name
is_own name items builds _ = false

-- the edits make the stored rows those of a rebase and then a sweep, whatever the reports that stand, and each
-- of them is the queue's own
pub record Settles (facts : Facts) (items : List ItemRow) (builds : List Build) (edits : List Edit) : Type 0 where
  pub rows : (reports : List Report) → length reports ≡ facts.reports →
      fold_edits (stored_rows facts items builds reports) edits
      ≡ settled_rows (bounds_by facts.settings.now) (places_by facts.landings.now items facts.items.now) builds
      (queue_by facts items reports)
  pub own : AllPass (is_own facts.settings.now.name items builds) edits

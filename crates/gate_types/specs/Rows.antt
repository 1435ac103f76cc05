-- What the tables hold of one queue, and what an edit makes of that.
use Rattle.std.specs.Prelude.{ℕ, false, not, ◌==◌, if◌then◌else◌, suc, List, [], ◌∷◌, map, filter, fold}
use Rattle.gate_types.specs.declared.records.Item.{Item as ItemRow}
use Rattle.gate_types.specs.declared.records.Build.{Build}
use Rattle.gate_types.specs.declared.records.Outcome.{Outcome}
use Rattle.gate_types.specs.declared.records.Report.{Report}
use Rattle.gate_types.specs.declared.rows.ReportRow.{ReportRow}
use Rattle.gate_types.specs.declared.edits.Edit.{Edit}
use Rattle.gate_types.specs.declared.edits.Edit.TheVariants as edit
use Rattle.gate_types.specs.Names.{same_name}
use Rattle.gate_types.specs.Settings.{Settings}
use Rattle.gate_types.specs.State.{Item, Queue, State, put_by}
use Rattle.gate_types.specs.Line.{Place}
use Rattle.gate_types.specs.Standing.{is_failing, ahead_of, places}
use Rattle.gate_types.specs.Rebase.{with_live}

-- the rows of a queue, each list in the order of its key
pub record Rows : Type 0 where
  pub name : List ℕ
  pub window : ℕ
  pub items : List ItemRow
  pub builds : List Build
  pub reports : List ReportRow

-- the item of a row
abbrev pub item_of : ItemRow → Item
item_of r = record { serial = r.serial; change = r.change; revision = r.revision }

-- the row of an item: what is ahead of it, and whether it fails, stand beside it
abbrev pub row_of : List Build → Place → ItemRow
row_of builds p = record {
  serial = p.item.serial;
  change = p.item.change;
  revision = p.item.revision;
  ahead = ahead_of p;
  failing = is_failing builds p;
}

-- the rows of a queue's items, both columns worked out
abbrev pub item_rows : Settings → State → Queue → List ItemRow
item_rows c s q = map (row_of s.builds) (places c s q)

-- the reports, numbered from the one after n
abbrev pub numbered_reports : ℕ → List Report → List ReportRow
numbered_reports n [] = []
numbered_reports n (r ∷ rs) = record { place = suc n; report = r } ∷ numbered_reports (suc n) rs

-- the rows of a queue, with those builds, by the places of its items
abbrev pub rows_of : List Place → List Build → Queue → Rows
rows_of ps builds q = record {
  name = q.name;
  window = q.window;
  items = map (row_of builds) ps;
  builds = builds;
  reports = numbered_reports 0 q.reports;
}

-- the outcome of a build, told
abbrev pub with_outcome : Outcome → Build → Build
with_outcome o b = record b { outcome = o }

-- the build of this number changed
abbrev pub change_build : ℕ → (Build → Build) → List Build → List Build
change_build n f builds = map (λ b. if b.number == n then f b else b) builds

-- the items' rows after an edit
abbrev pub edited_items : List ℕ → List ItemRow → Edit → List ItemRow
edited_items name items (edit.PutItem queue i) = if same_name queue name then put_by (λ j. j.serial) i items else items
edited_items name items (edit.DropItem serial) = filter (λ j. not (j.serial == serial)) items
edited_items name items (edit.LandItem serial) = filter (λ j. not (j.serial == serial)) items
edited_items name items _ = items

-- the builds' rows
abbrev pub edited_builds : List ℕ → List Build → Edit → List Build
edited_builds name builds (edit.PutBuild b) = if same_name b.queue name then put_by (λ c. c.number) b builds else builds
edited_builds name builds (edit.SetOutcome n o) = change_build n (with_outcome o) builds
edited_builds name builds (edit.StopBuild n) = change_build n (with_live false) builds
edited_builds name builds _ = builds

-- the reports' rows
abbrev pub edited_reports : List ℕ → List ReportRow → Edit → List ReportRow
edited_reports name reports (edit.PutReport queue n r) =
    if same_name queue name then put_by (λ x. x.place) (record { place = n; report = r }) reports else reports
edited_reports name reports _ = reports

-- the window
abbrev pub edited_window : List ℕ → ℕ → Edit → ℕ
edited_window name window (edit.SetWindow queue w) = if same_name queue name then w else window
edited_window name window _ = window

-- the rows of a queue after an edit; what it puts for another queue leaves them
abbrev pub edited : Rows → Edit → Rows
edited r e = record {
  name = r.name;
  window = edited_window r.name r.window e;
  items = edited_items r.name r.items e;
  builds = edited_builds r.name r.builds e;
  reports = edited_reports r.name r.reports e;
}

-- and after a list of edits
abbrev pub fold_edits : Rows → List Edit → Rows
fold_edits r edits = fold edited r edits

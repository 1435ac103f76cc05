-- What the tables hold of a whole content, and what edits make of that.
use Rattle.std.specs.Prelude.{ℕ, false, not, ◌==◌, ◌≡◌, if◌then◌else◌, suc, List, [], ◌∷◌, ◌++◌, map, filter, fold}
use Rattle.std.specs.Prelude.{Option, None, option_map, find}
use Rattle.std.specs.Option.{option_map_or}
use Rattle.gate_types.specs.declared.records.Change.{Change}
use Rattle.gate_types.specs.declared.records.Item.{Item as ItemRow}
use Rattle.gate_types.specs.declared.records.Landing.{Landing}
use Rattle.gate_types.specs.declared.records.Plan.{Plan}
use Rattle.gate_types.specs.declared.records.Ready.{Ready}
use Rattle.gate_types.specs.declared.records.Stage.{Stage}
use Rattle.gate_types.specs.declared.records.Build.{Build}
use Rattle.gate_types.specs.declared.records.Kept.{Kept}
use Rattle.gate_types.specs.declared.rows.ChangeRow.{ChangeRow}
use Rattle.gate_types.specs.declared.rows.LandingRow.{LandingRow}
use Rattle.gate_types.specs.declared.edits.Edit.{Edit}
use Rattle.gate_types.specs.declared.edits.Edit.TheVariants as edit
use Rattle.gate_types.specs.declared.edits.Counter.{Counter}
use Rattle.gate_types.specs.declared.edits.Counter.TheVariants as counter
use Rattle.gate_types.specs.Names.{same_name}
use Rattle.gate_types.specs.Counters.{Drawn}
use Rattle.gate_types.specs.Settings.{Settings}
use Rattle.gate_types.specs.State.{Queue, put_by}
use Rattle.gate_types.specs.Rebase.{with_live}
use Rattle.gate_types.specs.declared.rows.ReportRow.{ReportRow}
use Rattle.gate_types.specs.Rows.{item_rows, numbered_reports, with_outcome, change_build, edited_items, edited_reports}
use Rattle.gate_types.specs.Rows.{edited_window}
use Rattle.gate_types.specs.Once.{Content}

-- what stands of a queue, each list in the order of its key
pub record QueueRows : Type 0 where
  pub name : List ℕ
  pub window : ℕ
  pub items : List ItemRow
  pub landings : List LandingRow
  pub reports : List ReportRow

-- all tables: the queues in the order of the settings, the kept deliveries in the order in which they were accepted
pub record Tables : Type 0 where
  pub changes : List ChangeRow
  pub queues : List QueueRows
  pub plans : List Plan
  pub builds : List Build
  pub counters : Drawn
  pub kept : List Kept

-- ---- the tables of a content

-- the approval number of a change while it is ready
abbrev pub approval_of : List Ready → ℕ → Option ℕ
approval_of ready n = option_map (λ r. r.approval) (find (λ r. r.change == n) ready)

-- the row of a change
abbrev pub change_row : List Ready → Change → ChangeRow
change_row ready k = record { change = k; approval = approval_of ready k.number }

-- the landings, numbered from the one after n
abbrev pub numbered_landings : ℕ → List Landing → List LandingRow
numbered_landings n [] = []
numbered_landings n (l ∷ ls) = record { place = suc n; landing = l } ∷ numbered_landings (suc n) ls

-- what stands of a queue, beside these rows of its items
abbrev pub queue_rows : List ItemRow → Queue → QueueRows
queue_rows items q = record {
  name = q.name;
  window = q.window;
  items = items;
  landings = numbered_landings 0 q.landings;
  reports = numbered_reports 0 q.reports;
}

-- the tables of a content, with these rows for the items of each queue
abbrev pub tables_with : (Queue → List ItemRow) → Content → Tables
tables_with items x = record {
  changes = map (change_row x.state.ready) x.state.changes;
  queues = map (λ q. queue_rows (items q) q) x.state.queues;
  plans = x.state.plans;
  builds = x.state.builds;
  counters = x.state.counters;
  kept = x.kept;
}

-- the tables of a content, both columns of its items worked out
abbrev pub tables : Settings → Content → Tables
tables c x = tables_with (item_rows c x.state) x

-- ---- what the rows of changes tell of one

-- the row of a change
abbrev pub change_row_in : List ChangeRow → ℕ → Option ChangeRow
change_row_in rows n = find (λ r. r.change.number == n) rows

-- what is known of a change
abbrev pub change_in : List ChangeRow → ℕ → Option Change
change_in rows n = option_map (λ r. r.change) (change_row_in rows n)

-- the needs of a change; none where it isn't known
abbrev pub needs_in : List ChangeRow → ℕ → List ℕ
needs_in rows n = option_map_or (λ k. k.needs) (change_in rows n) []

-- ---- what edits make of tables

-- a change at another stage, ready no longer
abbrev pub at_stage : Stage → ChangeRow → ChangeRow
at_stage stage r = record { change = record r.change { stage = stage }; approval = None }

-- the row of the change of this number changed
abbrev pub change_known : ℕ → (ChangeRow → ChangeRow) → List ChangeRow → List ChangeRow
change_known n f rows = map (λ r. if r.change.number == n then f r else r) rows

-- the changes' rows after an edit
abbrev pub edited_changes : List ChangeRow → Edit → List ChangeRow
edited_changes rows (edit.PutChange k approval) =
    put_by (λ r. r.change.number) (record { change = k; approval = approval }) rows
edited_changes rows (edit.SetStage n stage) = change_known n (at_stage stage) rows
edited_changes rows _ = rows

-- the landings' rows
abbrev pub edited_landings : List ℕ → List LandingRow → Edit → List LandingRow
edited_landings name rows (edit.PutLanding queue n l) =
    if same_name queue name then put_by (λ x. x.place) (record { place = n; landing = l }) rows else rows
edited_landings name rows _ = rows

-- what stands of a queue
abbrev pub edited_queue : Edit → QueueRows → QueueRows
edited_queue e q = record {
  name = q.name;
  window = edited_window q.name q.window e;
  items = edited_items q.name q.items e;
  landings = edited_landings q.name q.landings e;
  reports = edited_reports q.name q.reports e;
}

-- a plan without its mark
abbrev pub unmarked : Plan → Plan
unmarked p = record p { fast = false }

-- the plan of this serial without its mark
abbrev pub unmark : ℕ → List Plan → List Plan
unmark serial rows = map (λ p. if p.serial == serial then unmarked p else p) rows

-- the plans: that of an item goes with its row, or keeps its jobs where the item lands
abbrev pub edited_plans : List Plan → Edit → List Plan
edited_plans rows (edit.PutPlan p) = put_by (λ q. q.serial) p rows
edited_plans rows (edit.DropItem serial) = filter (λ p. not (p.serial == serial)) rows
edited_plans rows (edit.LandItem serial) = unmark serial rows
edited_plans rows _ = rows

-- the builds' rows
abbrev pub edited_build_rows : List Build → Edit → List Build
edited_build_rows rows (edit.PutBuild b) = put_by (λ c. c.number) b rows
edited_build_rows rows (edit.SetOutcome n o) = change_build n (with_outcome o) rows
edited_build_rows rows (edit.StopBuild n) = change_build n (with_live false) rows
edited_build_rows rows _ = rows

-- a counter set
abbrev pub set_counter : Counter → ℕ → Drawn → Drawn
set_counter counter.Approval n d = record d { approval = n }
set_counter counter.Build n d = record d { build = n }
set_counter counter.Order n d = record d { order = n }

-- the counters
abbrev pub edited_counters : Drawn → Edit → Drawn
edited_counters d (edit.SetCounter k n) = set_counter k n d
edited_counters d _ = d

-- the kept deliveries
abbrev pub edited_kept : List Kept → Edit → List Kept
edited_kept rows (edit.Keep k) = rows ++ k ∷ []
edited_kept rows _ = rows

-- the tables after an edit
abbrev pub edited_tables : Tables → Edit → Tables
edited_tables t e = record {
  changes = edited_changes t.changes e;
  queues = map (edited_queue e) t.queues;
  plans = edited_plans t.plans e;
  builds = edited_build_rows t.builds e;
  counters = edited_counters t.counters e;
  kept = edited_kept t.kept e;
}

-- and after a list of edits
abbrev pub fold_all : Tables → List Edit → Tables
fold_all t edits = fold edited_tables t edits

-- the edits lead from one content to another
abbrev pub Leads : Settings → Content → List Edit → Content → Type 0
Leads c x edits y = fold_all (tables c x) edits ≡ tables c y

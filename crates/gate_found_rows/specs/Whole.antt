-- When what the tables hold has the form that a gate's rows have.
use Rattle.std.specs.Prelude.{ℕ, Bool, ◌&&◌, ◌==◌, ◌≡◌, ◌≢◌, ◌≤◌, true, nat_le, List, filter, length, AllPairs}
use Rattle.std.specs.List.{AllPass, list_all}
use Rattle.std.specs.Option.{option_map_or}
use Rattle.gate_types.specs.Forms.{are_counters_in_form, is_change_in_form, is_change_number, is_drawn_number}
use Rattle.gate_types.specs.Forms.{is_entry_in_form, is_kept_in_form, is_revision_number}
use Rattle.gate_types.specs.Names.{is_name}
use Rattle.gate_types.specs.declared.records.Build.{Build}
use Rattle.gate_types.specs.declared.records.Kept.{Kept}
use Rattle.gate_types.specs.declared.records.Ready.{Ready}
use Rattle.gate_types.specs.declared.rows.ChangeRow.{ChangeRow}
use Rattle.gate_schema.specs.Edits.{job_rows}
use Rattle.gate_schema.specs.Rows.{ItemRow, JobRow, QueueRow, Stored}
use Rattle.gate_rows.specs.Matches.{NeedsMatch, items_of}
use Rattle.gate_found_rows.specs.Asked.{stored_jobs_of, ready_rows}
use Rattle.gate_types.specs.Limits.{most_items, most_window}
use Rattle.gate_types.specs.Counters.{last_number}

-- an item's row: its queue's name and its numbers
abbrev pub is_item_row_in_form : ItemRow → Bool
is_item_row_in_form r =
    is_name r.queue &&
    (is_drawn_number r.item.serial && is_change_number r.item.change && is_revision_number r.item.revision) &&
    option_map_or is_drawn_number r.item.ahead true

-- a change's row: the change, and the number of its approval
abbrev pub is_change_row_in_form : ChangeRow → Bool
is_change_row_in_form r = is_change_in_form r.change && option_map_or is_drawn_number r.approval true

-- a build's row: its numbers, its names, and at most 1,000 changes ahead
abbrev pub is_build_row_in_form : Build → Bool
is_build_row_in_form x =
    is_drawn_number x.number && is_name x.queue && is_name x.job &&
    (is_drawn_number x.serial && is_change_number x.change && is_revision_number x.revision) &&
    nat_le x.after last_number && nat_le (length x.ahead) most_items && list_all is_entry_in_form x.ahead

-- a job's row: its name
abbrev pub is_job_row_in_form : JobRow → Bool
is_job_row_in_form x = is_name x.job.name

-- a job's row: its name, and the serial of its plan
abbrev pub is_planned_in_form : JobRow → Bool
is_planned_in_form x = is_drawn_number x.serial && is_job_row_in_form x

-- the jobs under each serial stand in their order, at the places from 0 on
abbrev pub ArePlaced : Stored → Type 0
ArePlaced b = (n : ℕ) → filter (λ (x : JobRow). x.serial == n) b.jobs ≡ job_rows n 0 (stored_jobs_of b n)

-- all rows are in form; what has a key of its own stands once; the needs are those of the changes, and the jobs are
-- placed; no queue has over 1,000 items
pub record IsWhole (b : Stored) : Type 0 where
  pub counters : are_counters_in_form b.counters ≡ true
  pub windows : AllPass (λ (q : QueueRow). nat_le q.window most_window) b.queues
  pub changes : AllPass is_change_row_in_form b.changes
  pub approvals_differ : AllPairs (λ (r s : Ready). r.approval ≢ s.approval) (ready_rows b.changes)
  pub needs : NeedsMatch b.needs b.changes
  pub items : AllPass is_item_row_in_form b.items
  pub changes_differ : AllPairs (λ (r s : ItemRow). r.item.change ≢ s.item.change) b.items
  pub items_are_few : (name : List ℕ) → length (items_of name b.items) ≤ most_items
  pub builds : AllPass is_build_row_in_form b.builds
  pub jobs : AllPass is_job_row_in_form b.jobs
  pub jobs_are_placed : ArePlaced b
  pub kept : AllPass is_kept_in_form b.kept
  pub ids_differ : AllPairs (λ (k l : Kept). k.id ≢ l.id) b.kept

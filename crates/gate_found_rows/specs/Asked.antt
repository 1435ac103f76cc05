-- What each read says of what the tables hold; of the items of a queue it is `items_of`.
use Rattle.std.specs.Prelude.{ℕ, ◌&&◌, ◌==◌, ◌<◌, nat_lt, if◌then◌else◌, Bool, List, [], ◌∷◌, map, filter, find, fold}
use Rattle.std.specs.Prelude.{flat_map, Option, Some, None, option_map, option_and_then, option_to_list, AllPairs}
use Rattle.std.specs.Prelude.{IsPermutation, ◌≡◌}
use Rattle.std.specs.List.{list_any}
use Rattle.std.specs.Option.{option_map_or}
use Rattle.gate_types.specs.Names.{same_name}
use Rattle.gate_types.specs.declared.config.Job.{Job}
use Rattle.gate_types.specs.declared.records.Build.{Build}
use Rattle.gate_types.specs.declared.records.Change.{Change}
use Rattle.gate_types.specs.declared.records.Item.{Item}
use Rattle.gate_types.specs.declared.records.Plan.{Plan}
use Rattle.gate_types.specs.declared.records.Ready.{Ready}
use Rattle.gate_types.specs.declared.rows.ChangeRow.{ChangeRow}
use Rattle.gate_types.specs.declared.rows.LandingRow.{LandingRow}
use Rattle.gate_types.specs.declared.rows.ReportRow.{ReportRow}
use Rattle.gate_book_trait.specs.Reads.{items_between}
use Rattle.gate_book_trait.specs.declared.rows.QueuedItem.{QueuedItem}
use Rattle.gate_schema.specs.Rows.{ItemRow, JobRow, QueueRow, Stored, build_key, change_key, item_key}
use Rattle.gate_schema.specs.Shown.{needs_among}
use Rattle.gate_rows.specs.Matches.{items_of, landings_of, reports_of}

-- ---- items

-- the item of a serial
abbrev pub stored_item_at : Stored → ℕ → Option Item
stored_item_at b serial = option_map (λ (r : ItemRow). r.item) (find (λ (r : ItemRow). item_key r == serial) b.items)

-- an item, with its queue's name
abbrev pub queued_item_of : ItemRow → QueuedItem
queued_item_of r = record { queue = r.queue; item = r.item }

-- the item of a change, with its queue's name
abbrev pub stored_queued_of : Stored → ℕ → Option QueuedItem
stored_queued_of b n = option_map queued_item_of (find (λ (r : ItemRow). r.item.change == n) b.items)

-- the items of a queue above a serial whose change needs this one
abbrev pub stored_items_needing : Stored → List ℕ → ℕ → ℕ → List Item
stored_items_needing b name n serial =
    filter (λ (i : Item). nat_lt serial i.serial && needs_among b.needs n i.change) (items_of name b.items)

-- ---- plans

-- the jobs under a serial, in their order
abbrev pub stored_jobs_of : Stored → ℕ → List Job
stored_jobs_of b n = map (λ (x : JobRow). x.job) (filter (λ (x : JobRow). x.serial == n) b.jobs)

-- the item of a serial fails fast
abbrev pub is_stored_fast : Stored → ℕ → Bool
is_stored_fast b n = list_any (λ m. m == n) b.fast

-- the plan of these jobs; none of no jobs
abbrev pub plan_with : ℕ → Bool → List Job → Option Plan
plan_with n fast [] = None
plan_with n fast (j ∷ js) = Some (record { serial = n; jobs = j ∷ js; fast = fast })

-- the plan under a serial
abbrev pub stored_plan_at : Stored → ℕ → Option Plan
stored_plan_at b n = plan_with n (is_stored_fast b n) (stored_jobs_of b n)

-- the plans of the items of a queue above one serial, up to another, item by item
abbrev pub plans_between : Stored → List ℕ → ℕ → ℕ → List Plan
plans_between b name above last =
    flat_map (λ (i : Item). option_to_list (stored_plan_at b i.serial))
    (items_between above last (items_of name b.items))

-- ---- changes

-- what is known of a change
abbrev pub stored_change : Stored → ℕ → Option Change
stored_change b n = option_map (λ (r : ChangeRow). r.change) (find (λ (r : ChangeRow). change_key r == n) b.changes)

-- the number of a change's approval, while it is ready
abbrev pub stored_approval_of : Stored → ℕ → Option ℕ
stored_approval_of b n =
    option_and_then (λ (r : ChangeRow). r.approval) (find (λ (r : ChangeRow). change_key r == n) b.changes)

-- a change that is ready
abbrev pub ready_row : ChangeRow → List Ready
ready_row r = option_map_or (λ a. (record { approval = a; change = r.change.number }) ∷ []) r.approval []

-- the changes that are ready, by their numbers
abbrev pub ready_rows : List ChangeRow → List Ready
ready_rows rows = flat_map ready_row rows

-- these are the changes that are ready, in order of approval
pub record AreReadyByApproval (b : Stored) (found : List Ready) : Type 0 where
  pub are : IsPermutation found (ready_rows b.changes)
  pub rise : AllPairs (λ (r s : Ready). r.approval < s.approval) found

-- these are the changes that are ready and need this one, in order of approval
pub record AreReadyNeeding (b : Stored) (n : ℕ) (found : List Ready) : Type 0 where
  pub ready : List Ready
  pub are_ready : AreReadyByApproval b ready
  pub need_it : found ≡ filter (λ (r : Ready). needs_among b.needs n r.change) ready

-- ---- builds

-- the build of a number
abbrev pub stored_build_of : Stored → ℕ → Option Build
stored_build_of b n = find (λ (x : Build). build_key x == n) b.builds

-- the live builds of a serial
abbrev pub stored_live_builds : Stored → ℕ → List Build
stored_live_builds b serial = filter (λ (x : Build). x.live && x.serial == serial) b.builds

-- the live builds of the items of a queue above one serial, up to another, item by item
abbrev pub builds_between : Stored → List ℕ → ℕ → ℕ → List Build
builds_between b name above last =
    flat_map (λ (i : Item). stored_live_builds b i.serial) (items_between above last (items_of name b.items))

-- ---- queues, landings and reports

-- the window of the queue of a name
abbrev pub stored_window_of : Stored → List ℕ → Option ℕ
stored_window_of b name =
    option_map (λ (q : QueueRow). q.window) (find (λ (q : QueueRow). same_name q.name name) b.queues)

-- the greatest of these, 0 of none
abbrev pub greatest : List ℕ → ℕ
greatest ns = fold (λ m n. if nat_lt m n then n else m) 0 ns

-- the last place of a landing of a queue
abbrev pub last_landing : Stored → List ℕ → ℕ
last_landing b name = greatest (map (λ (r : LandingRow). r.place) (landings_of name b.landings))

-- the last place of a landing of a queue with a lower serial
abbrev pub landing_before : Stored → List ℕ → ℕ → ℕ
landing_before b name serial =
    greatest (map (λ (r : LandingRow). r.place)
    (filter (λ (r : LandingRow). nat_lt r.landing.serial serial) (landings_of name b.landings)))

-- the last place of a report of a queue
abbrev pub last_report : Stored → List ℕ → ℕ
last_report b name = greatest (map (λ (r : ReportRow). r.place) (reports_of name b.reports))

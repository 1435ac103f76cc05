-- When what the file's tables hold is what the gate's tables hold, queue by queue.
use Rattle.std.specs.Prelude.{ℕ, suc, pos, Bool, true, false, ⊤, ◌==◌, ◌&&◌, ◌≡◌, ◌<◌, List, [], ◌∷◌, length, map}
use Rattle.std.specs.Prelude.{filter, find, IsPermutation}
use Rattle.std.specs.List.{AllByRecursion, list_any}
use Rattle.std.specs.Option.{option_map_or}
use Rattle.sqlite.specs.Tree.{Trees}
use Rattle.sqlite_keyed.specs.Keyed.{IsKeyedBy}
use Rattle.gate_types.specs.Names.{same_name}
use Rattle.gate_types.specs.Once.{Content}
use Rattle.gate_types.specs.Settings.{Settings}
use Rattle.gate_types.specs.SettingsText.{settings_text}
use Rattle.gate_types.specs.Tables.{QueueRows, Tables, edited_tables, needs_in, tables}
use Rattle.gate_types.specs.declared.config.Job.{Job}
use Rattle.gate_types.specs.declared.edits.Edit.{Edit}
use Rattle.gate_types.specs.declared.edits.Edit.TheVariants as edit
use Rattle.gate_types.specs.declared.records.Item.{Item}
use Rattle.gate_types.specs.declared.records.Plan.{Plan}
use Rattle.gate_types.specs.declared.rows.ChangeRow.{ChangeRow}
use Rattle.gate_types.specs.declared.rows.LandingRow.{LandingRow}
use Rattle.gate_types.specs.declared.rows.ReportRow.{ReportRow}
use Rattle.gate_schema.specs.Edits.{after_edit, job_rows, need_rows}
use Rattle.gate_schema.specs.Rows.{ItemRow, JobRow, NeedRow, QueueLanding, QueueReport, QueueRow, Stands, Stored}
use Rattle.gate_schema.specs.Rows.{build_key, change_key, fast_key, item_key}

-- ---- what is told of one queue, or one change

-- the items of a queue, among those of all
abbrev pub items_of : List ℕ → List ItemRow → List Item
items_of name rows = map (λ (r : ItemRow). r.item) (filter (λ (r : ItemRow). same_name r.queue name) rows)

-- its landings
abbrev pub landings_of : List ℕ → List QueueLanding → List LandingRow
landings_of name rows = map (λ (r : QueueLanding). r.row) (filter (λ (r : QueueLanding). same_name r.queue name) rows)

-- its reports
abbrev pub reports_of : List ℕ → List QueueReport → List ReportRow
reports_of name rows = map (λ (r : QueueReport). r.row) (filter (λ (r : QueueReport). same_name r.queue name) rows)

-- one of the lists of the queue of a name; empty where there is no such queue
abbrev pub of_queue : {X : Type 0} → (QueueRows → List X) → List ℕ → List QueueRows → List X
of_queue list name queues = option_map_or list (find (λ (q : QueueRows). same_name q.name name) queues) []

-- the queues by their places, from n on
abbrev pub placed : ℕ → List QueueRows → List QueueRow
placed n [] = []
placed n (q ∷ qs) = (record { name = q.name; place = n; window = q.window }) ∷ placed (suc n) qs

-- the jobs of the plan under a serial; none where there is no plan
abbrev pub jobs_in : List Plan → ℕ → List Job
jobs_in plans n = option_map_or (λ (p : Plan). p.jobs) (find (λ (p : Plan). p.serial == n) plans) []

-- whether there is one that fails fast
abbrev pub is_fast_in : List Plan → ℕ → Bool
is_fast_in plans n = option_map_or (λ (p : Plan). p.fast) (find (λ (p : Plan). p.serial == n) plans) false

-- ---- all of it

-- what stands of the queues: each by its place, its items in order, its landings and reports in any order
pub record QueuesMatch (queues : List QueueRow) (items : List ItemRow) (landings : List QueueLanding)
    (reports : List QueueReport) (told : List QueueRows) : Type 0 where
  pub places : queues ≡ placed 0 told
  pub items_are : (name : List ℕ) → items_of name items ≡ of_queue (λ q. q.items) name told
  pub landings_are : (name : List ℕ) → IsPermutation (landings_of name landings) (of_queue (λ q. q.landings) name told)
  pub reports_are : (name : List ℕ) → IsPermutation (reports_of name reports) (of_queue (λ q. q.reports) name told)

-- the needs of each change, in their order
abbrev pub NeedsMatch : List NeedRow → List ChangeRow → Type 0
NeedsMatch needs rows = (n : ℕ) → filter (λ (x : NeedRow). x.change == n) needs ≡ need_rows n 0 (needs_in rows n)

-- the jobs of each plan, in their order, and the serials of those that fail fast
pub record PlansMatch (jobs : List JobRow) (fast : List ℕ) (plans : List Plan) : Type 0 where
  pub jobs_are : (n : ℕ) → filter (λ (x : JobRow). x.serial == n) jobs ≡ job_rows n 0 (jobs_in plans n)
  pub fast_are : (n : ℕ) → list_any (λ m. m == n) fast ≡ is_fast_in plans n

-- the file holds these tables of the gate
pub record Matches (b : Stored) (t : Tables) : Type 0 where
  pub counters_are : b.counters ≡ t.counters
  pub queues_are : QueuesMatch b.queues b.items b.landings b.reports t.queues
  pub changes_are : b.changes ≡ t.changes
  pub needs_are : NeedsMatch b.needs t.changes
  pub builds_are : b.builds ≡ t.builds
  pub kept_are : b.kept ≡ t.kept
  pub plans_are : PlansMatch b.jobs b.fast t.plans

-- the file stands for a content
pub record StandsFor (db : Trees) (c : Settings) (x : Content) : Type 0 where
  pub stored : Stored
  pub stands : Stands db stored
  pub settings : stored.settings ≡ settings_text c
  pub matches : Matches stored (tables c x)

-- ---- what an edit asks

-- there is a queue of this name
abbrev pub IsStoredQueue : List ℕ → Stored → Type 0
IsStoredQueue name b = list_any (λ (q : QueueRow). same_name q.name name) b.queues ≡ true

-- it has jobs: in the file, a plan without is as none
abbrev pub HasJobs : Plan → Type 0
HasJobs p = 0 < length p.jobs

-- and so has each
abbrev pub HaveJobs : List Plan → Type 0
HaveJobs plans = AllByRecursion HasJobs plans

-- no job stands at a place under a serial
abbrev pub IsFree : ℕ → ℕ → Stored → Type 0
IsFree serial place b = AllByRecursion (λ (y : JobRow). (y.serial == serial && y.place == place) ≡ false) b.jobs

-- a row is put in a queue that is there
abbrev pub NamesQueue : Edit → Stored → Type 0
NamesQueue (edit.PutItem name i) b = IsStoredQueue name b
NamesQueue (edit.PutLanding name n l) b = IsStoredQueue name b
NamesQueue (edit.PutReport name n r) b = IsStoredQueue name b
NamesQueue _ b = ⊤

-- no other queue has the serial of an item that is put; no landing or report stands at the place of one that is put;
-- a plan that is put has jobs, and the first of them finds its place free
abbrev pub FitsBeside : Edit → Stored → Type 0
FitsBeside (edit.PutItem name i) b =
    AllByRecursion (λ (y : ItemRow). (y.item.serial == i.serial) ≡ true → same_name y.queue name ≡ true) b.items
FitsBeside (edit.PutLanding name n l) b =
    AllByRecursion (λ (y : QueueLanding). (same_name y.queue name && y.row.place == n) ≡ false) b.landings
FitsBeside (edit.PutReport name n r) b =
    AllByRecursion (λ (y : QueueReport). (same_name y.queue name && y.row.place == n) ≡ false) b.reports
FitsBeside (edit.PutPlan p) b = HasJobs p × IsFree p.serial 0 b
FitsBeside _ b = ⊤

-- both
abbrev pub Fits : Edit → Stored → Type 0
Fits e b = NamesQueue e b × FitsBeside e b

-- the rows with keys rise by them
pub record IsInOrder (b : Stored) : Type 0 where
  pub changes : IsKeyedBy (λ x. pos (change_key x)) b.changes
  pub items : IsKeyedBy (λ x. pos (item_key x)) b.items
  pub builds : IsKeyedBy (λ x. pos (build_key x)) b.builds
  pub fast : IsKeyedBy (λ x. pos (fast_key x)) b.fast

-- after the edit, what the file holds is what the gate's tables hold after it
abbrev pub EditIsTold : Edit → Type 0
EditIsTold e = (b : Stored) (t : Tables) → IsInOrder b → Fits e b → HaveJobs t.plans → Matches b t →
    Matches (after_edit e b) (edited_tables t e)

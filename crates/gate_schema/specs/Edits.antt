-- What the statements, and the edits that are made of them, make of what the tables hold.
use Rattle.std.specs.Prelude.{ℕ, suc, pos, Bool, true, false, not, ◌==◌, ◌&&◌, if◌then◌else◌, List, [], ◌∷◌, ◌++◌}
use Rattle.std.specs.Prelude.{map, filter, fold, nat_eq, Option}
use lib.Pointwise.{pointwise}
use Rattle.sqlite_keyed.specs.Keyed.{insert_by}
use Rattle.gate_types.specs.Names.{same_name}
use Rattle.gate_types.specs.Rebase.{with_live}
use Rattle.gate_types.specs.Rows.{with_outcome, change_build}
use Rattle.gate_types.specs.Tables.{at_stage, change_known, set_counter}
use Rattle.gate_types.specs.declared.config.Job.{Job}
use Rattle.gate_types.specs.declared.edits.Counter.{Counter}
use Rattle.gate_types.specs.declared.edits.Edit.{Edit}
use Rattle.gate_types.specs.declared.edits.Edit.TheVariants as edit
use Rattle.gate_types.specs.declared.records.Build.{Build}
use Rattle.gate_types.specs.declared.records.Item.{Item}
use Rattle.gate_types.specs.declared.records.Kept.{Kept}
use Rattle.gate_types.specs.declared.records.Landing.{Landing}
use Rattle.gate_types.specs.declared.records.Outcome.{Outcome}
use Rattle.gate_types.specs.declared.records.Plan.{Plan}
use Rattle.gate_types.specs.declared.records.Report.{Report}
use Rattle.gate_types.specs.declared.records.Stage.{Stage}
use Rattle.gate_types.specs.declared.records.Change.{Change}
use Rattle.gate_types.specs.declared.rows.ChangeRow.{ChangeRow}
use Rattle.gate_schema.specs.Rows.{Stored, QueueRow, ItemRow, NeedRow, JobRow, QueueLanding, QueueReport, item_key}
use Rattle.gate_schema.specs.Rows.{change_key, build_key, fast_key}

-- a row added at its key, where it is to be
abbrev pub insert_if : {X : Type 0} → Bool → (X → ℕ) → List X → X → List X
insert_if found key rows x = if found then insert_by (λ y. pos (key y)) rows x else rows

-- ---- one statement each

-- the item of a serial taken out of a queue
abbrev pub drop_item_of : ℕ → List ℕ → Stored → Stored
drop_item_of n queue b =
    record b { items = filter (λ y. not (item_key y == n && same_name y.queue queue)) b.items }

-- the item of a serial taken out
abbrev pub drop_item : ℕ → Stored → Stored
drop_item n b = record b { items = filter (λ y. not (item_key y == n)) b.items }

-- an item added at its serial
abbrev pub add_item : ItemRow → Stored → Stored
add_item x b = record b { items = insert_by (λ y. pos (item_key y)) b.items x }

-- an item set in place of the one of its serial in its queue; where none was found, none is set
abbrev pub set_item : Bool → ItemRow → Stored → Stored
set_item found x b =
    let others = filter (λ y. not (item_key y == item_key x && same_name y.queue x.queue)) b.items in
    record b { items = insert_if found item_key others x }

-- the jobs under a serial taken out
abbrev pub drop_jobs : ℕ → Stored → Stored
drop_jobs n b = record b { jobs = filter (λ y. not (y.serial == n)) b.jobs }

-- jobs added at the end
abbrev pub add_jobs : List JobRow → Stored → Stored
add_jobs xs b = record b { jobs = b.jobs ++ xs }

-- the mark that the item of a serial fails fast taken out
abbrev pub drop_fast : ℕ → Stored → Stored
drop_fast n b = record b { fast = filter (λ y. not (fast_key y == n)) b.fast }

-- the mark added, where it fails fast
abbrev pub mark_fast : Bool → ℕ → Stored → Stored
mark_fast fast n b = record b { fast = if fast then insert_by (λ y. pos (fast_key y)) b.fast n else b.fast }

-- the mark added
abbrev pub add_fast : ℕ → Stored → Stored
add_fast n b = mark_fast true n b

-- a change taken out, its needs left
abbrev pub drop_change : ℕ → Stored → Stored
drop_change n b = record b { changes = filter (λ y. not (change_key y == n)) b.changes }

-- a change added at its number, without its needs
abbrev pub add_change : ChangeRow → Stored → Stored
add_change x b = record b { changes = insert_by (λ y. pos (change_key y)) b.changes x }

-- the stage of a change told, which is ready no longer
abbrev pub set_stage : ℕ → Stage → Stored → Stored
set_stage n g b = record b { changes = change_known n (at_stage g) b.changes }

-- the needs of a change taken out
abbrev pub drop_needs : ℕ → Stored → Stored
drop_needs n b = record b { needs = filter (λ y. not (y.change == n)) b.needs }

-- needs added at the end
abbrev pub add_needs : List NeedRow → Stored → Stored
add_needs xs b = record b { needs = b.needs ++ xs }

-- a build taken out
abbrev pub drop_build : ℕ → Stored → Stored
drop_build n b = record b { builds = filter (λ y. not (build_key y == n)) b.builds }

-- a build added at its number
abbrev pub add_build : Build → Stored → Stored
add_build x b = record b { builds = insert_by (λ y. pos (build_key y)) b.builds x }

-- the outcome of a build told
abbrev pub set_outcome : ℕ → Outcome → Stored → Stored
set_outcome n o b = record b { builds = change_build n (with_outcome o) b.builds }

-- a build that stops being live
abbrev pub stop_build : ℕ → Stored → Stored
stop_build n b = record b { builds = change_build n (with_live false) b.builds }

-- a landing added at the end
abbrev pub add_landing : QueueLanding → Stored → Stored
add_landing x b = record b { landings = b.landings ++ x ∷ [] }

-- a report added at the end
abbrev pub add_report : QueueReport → Stored → Stored
add_report x b = record b { reports = b.reports ++ x ∷ [] }

-- a kept delivery added at the end
abbrev pub add_kept : Kept → Stored → Stored
add_kept x b = record b { kept = b.kept ++ x ∷ [] }

-- a queue with another window
abbrev pub at_window : ℕ → QueueRow → QueueRow
at_window w q = record q { window = w }

-- the window of a queue set
abbrev pub set_window : List ℕ → ℕ → Stored → Stored
set_window name w b =
    record b { queues = map (λ (q : QueueRow). if same_name q.name name then at_window w q else q) b.queues }

-- a counter set
abbrev pub draw : Counter → ℕ → Stored → Stored
draw k n b = record b { counters = set_counter k n b.counters }

-- ---- an edit

-- the needs of a change, by their places from n on
abbrev pub need_rows : ℕ → ℕ → List ℕ → List NeedRow
need_rows number n [] = []
need_rows number n (x ∷ xs) = (record { change = number; place = n; needed = x }) ∷ need_rows number (suc n) xs

-- the jobs of a plan, by their places from n on
abbrev pub job_rows : ℕ → ℕ → List Job → List JobRow
job_rows serial n [] = []
job_rows serial n (j ∷ js) = (record { serial = serial; place = n; job = j }) ∷ job_rows serial (suc n) js

-- the row of an item of a queue
abbrev pub item_in : List ℕ → Item → ItemRow
item_in name i = record { queue = name; item = i }

-- the row of a landing of a queue
abbrev pub landing_in : List ℕ → ℕ → Landing → QueueLanding
landing_in name n l = record { queue = name; row = record { place = n; landing = l } }

-- the row of a report of a queue
abbrev pub report_in : List ℕ → ℕ → Report → QueueReport
report_in name n r = record { queue = name; row = record { place = n; report = r } }

-- a change and its approval
abbrev pub change_with : Change → Option ℕ → ChangeRow
change_with k a = record { change = k; approval = a }

-- the needs that stand of a change, in the order in which they were added
abbrev pub standing_needs : ℕ → List NeedRow → List ℕ
standing_needs n rows = map (λ (y : NeedRow). y.needed) (filter (λ (y : NeedRow). y.change == n) rows)

-- the needs of a change put in place of the old ones, unless these are the same
abbrev pub put_needs : ℕ → List ℕ → Stored → Stored
put_needs n needs b =
    let others = filter (λ (y : NeedRow). not (y.change == n)) b.needs in
    let same = pointwise nat_eq (standing_needs n b.needs) needs in
    record b { needs = if same then b.needs else others ++ need_rows n 0 needs }

-- a change put, with its needs
abbrev pub replace_change : Change → Option ℕ → Stored → Stored
replace_change k a b = put_needs k.number k.needs (add_change (change_with k a) (drop_change k.number b))

-- the plan under a serial taken out
abbrev pub drop_plan : ℕ → Stored → Stored
drop_plan n b = drop_fast n (drop_jobs n b)

-- a plan's jobs, and its mark, where there is none under its serial
abbrev pub add_plan : Plan → Stored → Stored
add_plan p b = mark_fast p.fast p.serial (add_jobs (job_rows p.serial 0 p.jobs) b)

-- what the tables hold after an edit
abbrev pub after_edit : Edit → Stored → Stored
after_edit (edit.PutChange k a) b = replace_change k a b
after_edit (edit.SetStage n g) b = set_stage n g b
after_edit (edit.PutItem name i) b = add_item (item_in name i) (drop_item_of i.serial name b)
after_edit (edit.DropItem n) b = drop_plan n (drop_item n b)
after_edit (edit.LandItem n) b = drop_fast n (drop_item n b)
after_edit (edit.PutPlan p) b = add_plan p b
after_edit (edit.PutLanding name n l) b = add_landing (landing_in name n l) b
after_edit (edit.PutReport name n r) b = add_report (report_in name n r) b
after_edit (edit.PutBuild x) b = add_build x (drop_build x.number b)
after_edit (edit.SetOutcome n o) b = set_outcome n o b
after_edit (edit.StopBuild n) b = stop_build n b
after_edit (edit.SetWindow name w) b = set_window name w b
after_edit (edit.SetCounter k n) b = draw k n b
after_edit (edit.Keep k) b = add_kept k b

-- the edits in turn
abbrev pub after_edits : List Edit → Stored → Stored
after_edits edits b = fold (λ c e. after_edit e c) b edits

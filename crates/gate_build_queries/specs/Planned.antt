-- How the plans of a queue's items are put together from the rows of their jobs and the marks of those that fail fast.
use Rattle.std.specs.Prelude.{ℕ, ◌==◌, if◌then◌else◌, Bool, List, [], ◌∷◌, ◌++◌, filter, flat_map, fold, Option, Some}
use Rattle.std.specs.Prelude.{None}
use Rattle.std.specs.List.{list_any}
use Rattle.gate_types.specs.declared.config.Job.{Job}
use Rattle.gate_types.specs.declared.records.Item.{Item}
use Rattle.gate_types.specs.declared.records.Plan.{Plan}
use Rattle.gate_book_trait.specs.Reads.{items_between}
use Rattle.gate_rows.specs.Matches.{items_of}
use Rattle.gate_schema.specs.Rows.{JobRow, Stored}

-- ---- what is read

-- the rows of the jobs of the items of a queue above one serial, up to another, item by item
abbrev pub jobs_between : Stored → List ℕ → ℕ → ℕ → List JobRow
jobs_between b name above last =
    flat_map (λ (i : Item). filter (λ (x : JobRow). x.serial == i.serial) b.jobs)
    (items_between above last (items_of name b.items))

-- the serials of those that fail fast
abbrev pub marked_between : Stored → List ℕ → ℕ → ℕ → List ℕ
marked_between b name above last =
    flat_map (λ (i : Item). filter (λ m. m == i.serial) b.fast) (items_between above last (items_of name b.items))

-- ---- what is made of it

-- a plan of one job
abbrev pub plan_of_one : ℕ → Bool → Job → Plan
plan_of_one n fast j = record { serial = n; jobs = j ∷ []; fast = fast }

-- a plan with a job more, or it and a new one where it is under another serial
abbrev pub plans_joined : Option Plan → ℕ → Bool → Job → List Plan
plans_joined None n fast j = plan_of_one n fast j ∷ []
plans_joined (Some p) n fast j =
    if p.serial == n then (record p { jobs = p.jobs ++ j ∷ [] }) ∷ [] else p ∷ plan_of_one n fast j ∷ []

-- the last of these plans with a job more, or a new one behind them where that is under another serial
abbrev pub with_job : List Plan → ℕ → Bool → Job → List Plan
with_job [] n fast j = plans_joined None n fast j
with_job (p ∷ []) n fast j = plans_joined (Some p) n fast j
with_job (p ∷ q ∷ ps) n fast j = p ∷ with_job (q ∷ ps) n fast j

-- the plans of these jobs, those of each plan in turn; those of the marked serials fail fast
abbrev pub plans_of : List ℕ → List JobRow → List Plan
plans_of marked xs =
    fold (λ ps (x : JobRow). with_job ps x.serial (list_any (λ m. m == x.serial) marked) x.job) [] xs

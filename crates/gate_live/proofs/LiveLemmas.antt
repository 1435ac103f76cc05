-- What is live of edited tables is the same edits of what is live.
use Rattle.std.proofs.Common.{◌≡◌, ℕ, suc, ◌+◌, max, Bool, true, false, cond, List, [], ◌∷◌, length, map, refl, ap}
use Rattle.std.proofs.Common.{◌∙◌, eqb-true, arith}
use Rattle.std.specs.Prelude.{◌==◌, nat_lt}
use Rattle.gate_types.specs.declared.edits.Edit.{Edit}
use Rattle.gate_types.specs.declared.edits.Edit.TheVariants as edit
use Rattle.gate_types.specs.declared.records.Landing.{Landing}
use Rattle.gate_types.specs.declared.records.Report.{Report}
use Rattle.gate_types.specs.declared.rows.LandingRow.{LandingRow}
use Rattle.gate_types.specs.declared.rows.ReportRow.{ReportRow}
use Rattle.gate_types.specs.Names.{same_name}
use Rattle.gate_types.specs.State.{put_by}
use Rattle.gate_types.specs.Rows.{numbered_reports, edited_reports}
use Rattle.gate_types.specs.Tables.{QueueRows, Tables, edited_landings, edited_queue, edited_tables, fold_all}
use Rattle.gate_types.specs.Tables.{numbered_landings}
use Rattle.gate_live.specs.Live.{LiveTables, last_place, landings_after, reports_after, live_queue, live_tables}
use Rattle.gate_live.specs.Live.{edited_live_queue, edited_live, fold_live}

-- ---- last places

last_less : {X : Type 0} (place : X → ℕ) (x y : X) (ys : List X) (t : Bool) → last_place place (put_by place x ys) ≡ max (place x) (last_place place ys) →
    last_place place (cond t (x ∷ y ∷ ys) (y ∷ put_by place x ys)) ≡ max (place x) (max (place y) (last_place place ys))
last_less place x y ys true rest = refl
last_less place x y ys false rest = omega (arith, rest)

-- a row put is the last, or the last is as before
last_put : {X : Type 0} (place : X → ℕ) (x : X) (xs : List X) → last_place place (put_by place x xs) ≡ max (place x) (last_place place xs)
last_put place x [] = refl
last_put {X} place x (y ∷ ys) = by_same (place x == place y) refl (last_less place x y ys (nat_lt (place x) (place y)) (last_put place x ys))
  where
    by_same : (t : Bool) → (place x == place y) ≡ t → last_place place (cond (nat_lt (place x) (place y)) (x ∷ y ∷ ys) (y ∷ put_by place x ys)) ≡ max (place x) (max (place y) (last_place place ys)) → last_place place (cond t (x ∷ ys) (cond (nat_lt (place x) (place y)) (x ∷ y ∷ ys) (y ∷ put_by place x ys))) ≡ max (place x) (max (place y) (last_place place ys))
    by_same true e less = let same : place x ≡ place y = eqb-true (place x) (place y) e in omega arith
    by_same false e less = less

-- the same where it is put or not
last_put_if : {X : Type 0} (place : X → ℕ) (x : X) (xs : List X) (t : Bool) → last_place place (cond t (put_by place x xs) xs) ≡ cond t (max (place x) (last_place place xs)) (last_place place xs)
last_put_if place x xs true = last_put place x xs
last_put_if place x xs false = refl

-- rows that are numbered from 1 are as many as the place of the last
numbered_landings_end : (n : ℕ) (ls : List Landing) → max n (last_place (λ (r : LandingRow). r.place) (numbered_landings n ls)) ≡ n + length ls
numbered_landings_end n [] = omega arith
numbered_landings_end n (l ∷ ls) = let rest = numbered_landings_end (suc n) ls in omega (arith, rest)

pub count_of_landings : (ls : List Landing) → last_place (λ (r : LandingRow). r.place) (numbered_landings 0 ls) ≡ length ls
count_of_landings ls = let h = numbered_landings_end 0 ls in omega (arith, h)

numbered_reports_end : (n : ℕ) (rs : List Report) → max n (last_place (λ (r : ReportRow). r.place) (numbered_reports n rs)) ≡ n + length rs
numbered_reports_end n [] = omega arith
numbered_reports_end n (r ∷ rs) = let rest = numbered_reports_end (suc n) rs in omega (arith, rest)

pub count_of_reports : (rs : List Report) → last_place (λ (r : ReportRow). r.place) (numbered_reports 0 rs) ≡ length rs
count_of_reports rs = let h = numbered_reports_end 0 rs in omega (arith, h)

-- ---- one edit

landing_edited : (name : List ℕ) (rows : List LandingRow) (e : Edit) → last_place (λ (r : LandingRow). r.place) (edited_landings name rows e) ≡ landings_after name (last_place (λ (r : LandingRow). r.place) rows) e
landing_edited name rows (edit.PutLanding queue place l) = last_put_if (λ (r : LandingRow). r.place) (record { place = place; landing = l }) rows (same_name queue name)
landing_edited name rows _ = refl

report_edited : (name : List ℕ) (rows : List ReportRow) (e : Edit) → last_place (λ (r : ReportRow). r.place) (edited_reports name rows e) ≡ reports_after name (last_place (λ (r : ReportRow). r.place) rows) e
report_edited name rows (edit.PutReport queue place l) = last_put_if (λ (r : ReportRow). r.place) (record { place = place; report = l }) rows (same_name queue name)
report_edited name rows _ = refl

-- of a queue
live_queue_edited : (e : Edit) (q : QueueRows) → live_queue (edited_queue e q) ≡ edited_live_queue e (live_queue q)
live_queue_edited e q = λ i. record {
  rows = (edited_live_queue e (live_queue q)).rows;
  landings = landing_edited q.name q.landings e i;
  reports = report_edited q.name q.reports e i;
}

live_queues_edited : (e : Edit) (qs : List QueueRows) → map live_queue (map (edited_queue e) qs) ≡ map (edited_live_queue e) (map live_queue qs)
live_queues_edited e [] = refl
live_queues_edited e (q ∷ qs) = λ i. live_queue_edited e q i ∷ live_queues_edited e qs i

-- of all tables
live_edited : (t : Tables) (e : Edit) → live_tables (edited_tables t e) ≡ edited_live (live_tables t) e
live_edited t e = λ i. record { queues = live_queues_edited e t.queues i; counters = (edited_tables t e).counters }

-- all edits
pub live_after : (t : Tables) (edits : List Edit) → live_tables (fold_all t edits) ≡ fold_live (live_tables t) edits
live_after t [] = refl
live_after t (e ∷ es) = live_after (edited_tables t e) es ∙ ap (λ (l : LiveTables). fold_live l es) (live_edited t e)

-- What is told of the tables, where a plan is put, or its item lands.
use Rattle.std.proofs.Common.{ℕ, ltb, eqb, not, List, [], ◌∷◌, Bool, true, false, cond, refl}
use Rattle.sqlite_keyed.proofs.ListLemmas.{all-filter}
use Rattle.gate_types.specs.State.{put_by}
use Rattle.gate_types.specs.Tables.{Tables, edited_queue, edited_tables, unmark, unmarked}
use Rattle.gate_types.specs.declared.edits.Edit.{Edit}
use Rattle.gate_types.specs.declared.edits.Edit.TheVariants as edit
use Rattle.gate_types.specs.declared.records.Plan.{Plan}
use Rattle.gate_schema.specs.Edits.{after_edit}
use Rattle.gate_schema.specs.Rows.{Stored}
use Rattle.gate_rows.specs.Matches.{FitsBeside, HasJobs, HaveJobs, IsInOrder, Matches}
use Rattle.gate_rows.proofs.PlanLemmas.{no_plan, plans_put, plans_unmarked}
use Rattle.gate_rows.proofs.MatchLemmas.{matches_drop, queues_stay}

pub matches_plan : (p : Plan) (b : Stored) (t : Tables) → IsInOrder b → FitsBeside (edit.PutPlan p) b → HaveJobs t.plans → Matches b t
    → Matches (after_edit (edit.PutPlan p) b) (edited_tables t (edit.PutPlan p))
matches_plan p b t order fits have h = record {
  queues_are = queues_stay (edited_queue (edit.PutPlan p)) (λ q. refl) (λ q. refl) (λ q. refl) (λ q. refl) (λ q. refl) _ _ _ _ _ h.queues_are;
  plans_are = plans_put p b t.plans order.fast (no_plan p.serial b t.plans have fits.1 h.plans_are) h.plans_are;
  counters_are = h.counters_are;
  changes_are = h.changes_are;
  needs_are = h.needs_are;
  builds_are = h.builds_are;
  kept_are = h.kept_are;
}

-- to the queues a landing is as an item dropped
pub matches_land : (n : ℕ) (b : Stored) (t : Tables) → Matches b t → Matches (after_edit (edit.LandItem n) b) (edited_tables t (edit.LandItem n))
matches_land n b t h = record {
  queues_are = (matches_drop n b t h).queues_are;
  plans_are = plans_unmarked n b t.plans h.plans_are;
  counters_are = h.counters_are;
  changes_are = h.changes_are;
  needs_are = h.needs_are;
  builds_are = h.builds_are;
  kept_are = h.kept_are;
}

-- ---- plans keep their jobs

put_has : (p : Plan) (plans : List Plan) → HasJobs p → HaveJobs plans → HaveJobs (put_by (λ (q : Plan). q.serial) p plans)
put_has p [] has have = (has, tt)
put_has p (q ∷ qs) has have = go (eqb p.serial q.serial) (ltb p.serial q.serial) (put_has p qs has have.1)
  where
    go : (same less : Bool) → HaveJobs (put_by (λ (q : Plan). q.serial) p qs)
        → HaveJobs (cond same (p ∷ qs) (cond less (p ∷ q ∷ qs) (q ∷ put_by (λ (q : Plan). q.serial) p qs)))
    go true less more = (has, have.1)
    go false true more = (has, have)
    go false false more = (have.0, more)

unmark_has : (n : ℕ) (plans : List Plan) → HaveJobs plans → HaveJobs (unmark n plans)
unmark_has n [] have = tt
unmark_has n (p ∷ ps) have = (elim (eqb p.serial n) as (λ c. HasJobs (cond c (unmarked p) p)) [ true ↦ have.0 | false ↦ have.0 ], unmark_has n ps have.1)

-- after an edit that fits, each plan has jobs still
pub jobs_stay : (e : Edit) (b : Stored) (t : Tables) → FitsBeside e b → HaveJobs t.plans → HaveJobs (edited_tables t e).plans
jobs_stay (edit.PutPlan p) b t fits have = put_has p t.plans fits.0 have
jobs_stay (edit.DropItem n) b t fits have = all-filter HasJobs (λ (p : Plan). not (eqb p.serial n)) t.plans have
jobs_stay (edit.LandItem n) b t fits have = unmark_has n t.plans have
jobs_stay _ b t fits have = have

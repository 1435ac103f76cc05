use Rattle.std.proofs.Common.{◌≡◌, ◌<◌, ◌∙◌, List, arith, eqb, false, length, sym}
use Rattle.std.proofs.lemmas.Bool.Decides.{nat_tests}
use Rattle.std.proofs.lemmas.Result.{on_ok_weaker}
use Rattle.sqlite.specs.State.{HasCleanDisk}
use Rattle.sqlite.specs.Held.{state}
use Rattle.gate_types.specs.declared.config.Job.{Job}
use Rattle.gate_schema.specs.Edits as edits
use Rattle.gate_rows.proofs.ThenLemmas.{changes_then}
use Rattle.gate_rows.proofs.plans.put_plan.Goals as goal

-- where the test for none fails, there are some
some_jobs : (jobs : List Job) → eqb (length jobs) 0 ≡ false → 0 < length jobs
some_jobs jobs some = grind (arith, nat_tests)

pub returns-clause-changes : goal.returns-clause-changes
returns-clause-changes g c clean ready =
    let early : HasCleanDisk (state g.S.Store c.add_jobs.new.tx.conn.now) = omega (arith, c.mark_fast.ensures.crash.clean) in
    let first = rw c.as_slice-jobs.ensures at (c.in_ok-add_jobs.ensures.changes early ready) in
    on_ok_weaker c.mark_fast.result
    (changes_then (state g.S.Store c.args.tx.now.conn.now) (state g.S.Store c.add_jobs.new.tx.conn.now) (state g.S.Store c.mark_fast.new.tx.conn.now) (edits.add_jobs (edits.job_rows c.args.plan.now.serial 0 c.args.plan.now.jobs)) (edits.mark_fast c.args.plan.now.fast c.args.plan.now.serial) first)
    (c.mark_fast.ensures.changes clean first.ready)

pub returns-clause-fits : goal.returns-clause-fits
returns-clause-fits g c clean ready =
    let early : HasCleanDisk (state g.S.Store c.add_jobs.new.tx.conn.now) = omega (arith, c.mark_fast.ensures.crash.clean) in
    let has = rw c.as_slice-jobs.ensures at (some_jobs c.as_slice-jobs.result.now (sym c.is_empty.ensures ∙ c.if-is_empty.false)) in
    let free = rw c.as_slice-jobs.ensures at (c.in_ok-add_jobs.ensures.free early ready) in
    on_ok_weaker c.mark_fast.result (λ _ b named stands. (has, free b named stands has)) (c.mark_fast.ensures.changes clean (c.in_ok-add_jobs.ensures.changes early ready).ready)

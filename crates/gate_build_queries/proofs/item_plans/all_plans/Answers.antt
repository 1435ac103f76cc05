use Rattle.std.proofs.Common.{rules, ◌≡◌, ◌∙◌, ◌+◌, suc, take, ap, arith}
use Rattle.std.proofs.lemmas.Bool.{and_parts}
use Rattle.sqlite_value.specs.Order.{column}
use Rattle.gate_found_rows.specs.Shown.{planned_shown}
use Rattle.gate_found_rows.specs.Whole.{is_job_row_in_form, is_planned_in_form}
use Rattle.gate_found_rows.proofs.DecodeLemmas.{row_shows}
use Rattle.gate_build_queries.proofs.PlannedLemmas.{next_plan}
use Rattle.gate_build_queries.proofs.item_plans.all_plans.Goals as goal

pub returns-in_err-serial : goal.returns-in_err-serial
returns-in_err-serial c xs are form =
    let at = row_shows planned_shown is_planned_in_form c.args.rows.now c.row-item.result c.loop-row.row-index xs c.loop-row-test.true c.row-item.is are form in
    absurd (c.in_err-serial.ensures.err at.one.serial (ap (λ row. column row 0) at.is) (and_parts _ (is_job_row_in_form at.one) at.in_form).0)

pub returns-in_err-job : goal.returns-in_err-job
returns-in_err-job c xs are form =
    let at = row_shows planned_shown is_planned_in_form c.args.rows.now c.row-item.result c.loop-row.row-index xs c.loop-row-test.true c.row-item.is are form in
    let unblamed = c.in_err-job.ensures at.one at.is at.in_form in
    search rules

pub loop-row-preserved : goal.loop-row-preserved
loop-row-preserved c xs are form =
    let k = c.loop-row.row-index in
    let at = row_shows planned_shown is_planned_in_form c.args.rows.now c.row-item.result k xs c.loop-row-test.true c.row-item.is are form in
    let step : k + 1 ≡ suc k = omega arith in
    let serial : c.in_ok-serial.serial ≡ at.one.serial = c.in_ok-serial.ensures.ok at.one.serial (ap (λ row. column row 0) at.is) in
    c.in_ok-add_job.ensures
    ∙ next_plan c.args.marked.now (take k xs) (take (k + 1) xs) at.one c.loop-row.plans.items c.in_ok-serial.serial c.contains-fast.result c.in_ok-job.job
    (c.loop-row.invariant xs are form) serial (c.in_ok-job.ensures at.one at.is at.in_form) (rw c.get.ensures.value at c.contains-fast.ensures.value) (ap (λ n. take n xs) step ∙ at.next)

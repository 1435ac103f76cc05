use Rattle.std.proofs.Common.{rules, ◌≡◌, ◌∙◌, ◌++◌, ◌∷◌, [], suc, ◌+◌, length, take, sym, ap, arith}
use Rattle.std.proofs.lemmas.List.{length-map, take_all}
use Rattle.gate_types.specs.Names.{is_name}
use Rattle.gate_types.specs.declared.config.Job.{Job}
use Rattle.gate_found_rows.specs.Shown.{job_shown}
use Rattle.gate_found_rows.proofs.DecodeLemmas.{row_shows}
use Rattle.gate_build_queries.proofs.plans.all_jobs.Goals as goal

pub returns-in_err-job : goal.returns-in_err-job
returns-in_err-job c js are form =
    let at = row_shows job_shown (λ (j : Job). is_name j.name) c.args.rows.now c.row-item.result c.loop-row.row-index js c.loop-row-test.true c.row-item.is are form in
    let unblamed = c.in_err-job.ensures at.one at.is at.in_form in
    search rules

pub loop-row-preserved : goal.loop-row-preserved
loop-row-preserved c = (
  omega (arith, c.push_reserved.ensures.len, c.loop-row.invariant.0),
  omega (arith, c.push_reserved.ensures.capacity, c.loop-row.invariant.1),
  λ js are form.
      let k = c.loop-row.row-index in
      let at = row_shows job_shown (λ (j : Job). is_name j.name) c.args.rows.now c.row-item.result k js c.loop-row-test.true c.row-item.is are form in
      let step : suc k ≡ k + 1 = omega arith in
      c.push_reserved.ensures.items ∙ ap (λ l. l ++ c.in_ok-job.job ∷ []) (c.loop-row.invariant.2 js are form)
      ∙ ap (λ x. take k js ++ x ∷ []) (c.in_ok-job.ensures at.one at.is at.in_form)
      ∙ sym at.next ∙ ap (λ n. take n js) step,
)

pub returns : goal.returns
returns c js are form =
    let all : take c.loop-row.row-index js ≡ js = take_all c.loop-row.row-index js (omega (arith, ap length are, length-map js job_shown)) in
    c.from_vec.ensures ∙ c.loop-row.invariant.2 js are form ∙ all

use Rattle.std.proofs.Common.{◌≡◌, ◌∙◌, ap, arith, length, sym}
use Rattle.gate_build_queries.specs.Planned.{with_job}
use Rattle.std.proofs.lemmas.Result.{on_ok_weaker}
use Rattle.gate_build_queries.proofs.PlannedLemmas.{none_left, with_job_behind}
use Rattle.gate_build_queries.proofs.item_plans.add_job.Goals as goal

pub returns : goal.returns
returns c =
    let n = c.args.serial in
    let left = c.pop-last.new.self in
    let long : left.len ≡ length left.items = omega (arith, left.ok.0) in
    on_ok_weaker c.join_job.result (λ h. h
    ∙ sym (with_job_behind left.items c.pop-last.result n c.args.fast c.args.job (λ e. none_left c.pop-last.result c.args.plans.now.len left.len left.items e c.pop-last.ensures.cases long))
    ∙ ap (λ ps. with_job ps n c.args.fast c.args.job) (sym c.pop-last.ensures.items)) c.join_job.ensures

use Rattle.std.proofs.Common.{◌≡◌, false, not, cond, Some, None, sym, ap, ◌∙◌}
use Rattle.gate_types.specs.declared.records.Verdict.TheVariants as verdict
use Rattle.gate_types.specs.Slot.{is_blocked}
use Rattle.gate_queue.specs.WholeQueue.Facts.{place_in_context}
use Rattle.gate_queue_rules.proofs.Cut.{when_unblocked}
use Rattle.gate_queue.proofs.WholeQueue.PlaceLemmas.{verdict_told}
use Rattle.gate_queue.proofs.whole_queue.judge.judge.Goals as goal

pub returns-clause-verdict : goal.returns-clause-verdict
returns-clause-verdict c =
    let p = place_in_context c.args.context.now in
    let free : is_blocked p ≡ false = ap not (sym c.are_met_by.ensures ∙ c.if-not-are_met_by.false) in
    c.verdict_of-2.ensures
    ∙ ap (λ t. cond (not c.are_met_by-met.result) (Some verdict.Needs) (cond t (Some verdict.Failed) None)) c.has_failed-failed.ensures
    ∙ verdict_told c.args.builds.now c.args.staying.now p c.are_met_by-met.result c.in_ok-marks.marks.failed c.is_empty.result
    c.is_cut-cut.result c.in_ok-marks.marks.decided free
    c.are_met_by-met.ensures c.in_ok-marks.ensures.failed c.is_empty.ensures
    (when_unblocked c.args.context.now.fast c.in_ok-marks.marks.failed c.is_cut-cut.ensures) c.in_ok-marks.ensures.decided

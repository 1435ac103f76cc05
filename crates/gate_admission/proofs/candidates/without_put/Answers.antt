use Rattle.std.proofs.Common.{◌∙◌, ◌++◌, sym}
use Rattle.std.specs.List.{list_any}
use Rattle.gate_types.specs.declared.records.Ready.{Ready}
use Rattle.gate_admission.specs.Candidates.{puts_or_sets, if_left}
use Rattle.gate_admission.proofs.Along.{filter_step}
use Rattle.gate_admission.proofs.candidates.without_put.Goals as goal

pub loop-row-preserved : goal.loop-row-preserved
loop-row-preserved c =
    let edits = c.args.edits.now in
    let r = c.row-item.result in
    c.in_ok-left.ensures
    ∙ (λ i. c.loop-row.invariant i ++ if_left (list_any (puts_or_sets r.change) edits) r)
    ∙ sym (filter_step (λ (t : Ready). list_any (puts_or_sets t.change) edits) c.args.rows.now c.loop-row.row-index r
    c.loop-row-test.true c.row-item.is)

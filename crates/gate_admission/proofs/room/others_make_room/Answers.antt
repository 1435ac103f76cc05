use Rattle.std.proofs.Common.{◌∙◌, sym}
use Rattle.gate_admission.specs.Candidates.{makes_room}
use Rattle.gate_admission.proofs.Along.{any_step}
use Rattle.gate_book_trait.proofs.KeptLemmas.{then}
use Rattle.gate_admission.proofs.room.others_make_room.Goals as goal

pub loop-edit-preserved : goal.loop-edit-preserved
loop-edit-preserved g c = record {
  kept = then c.loop-edit.invariant.kept c.in_ok-makes_room.ensures.kept;
  found = λ trusted s x holds lawful none.
      let one = c.in_ok-makes_room.ensures.kept.trusted_before trusted in
      let start = c.loop-edit.invariant.kept.holds_on one s x holds in
      any_step (makes_room x.state) c.args.edits.now c.loop-edit.edit-index c.edit-item.result c.loop-edit-test.true
      c.edit-item.is
      (sym (c.in_ok-makes_room.ensures.found trusted s x start lawful none) ∙ c.if-branch.false)
      (c.loop-edit.invariant.found one s x holds lawful none);
}

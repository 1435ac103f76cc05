use Rattle.std.proofs.Common.{List, [], ◌∷◌, sym, subst}
use Rattle.gate_types.specs.declared.edits.Edit.{Edit}
use Rattle.gate_types.specs.declared.edits.Edit.TheVariants as edit
use Rattle.gate_types.specs.State.{put_change}
use Rattle.gate_types.specs.Admit.{without_ready}
use Rattle.gate_reads.specs.Moves.{Moves}
use Rattle.gate_ruling.proofs.Folded.{moves_on}
use Rattle.gate_ruling.proofs.Put.{stage_moves}
use Rattle.gate_ruling.proofs.changing.set_at.Goals as goal

pub returns : goal.returns
returns c = λ x t rises known moves.
    let k = c.args.known.now in
    let g = c.args.stage in
    let after = put_change (record k { stage = g }) (without_ready k.number t) in
    let last : List Edit = edit.SetStage k.number g ∷ [] in
    subst (λ es. Moves x es after) (sym c.in_ok-push.ensures.items)
    (moves_on x t after c.args.edits.items last moves (stage_moves x t k g rises known))

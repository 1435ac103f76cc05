use Rattle.std.proofs.Common.{None, List, [], ◌∷◌, sym, subst}
use Rattle.gate_types.specs.declared.edits.Edit.{Edit}
use Rattle.gate_types.specs.declared.edits.Edit.TheVariants as edit
use Rattle.gate_types.specs.State.{put_change}
use Rattle.gate_types.specs.Admit.{without_ready}
use Rattle.gate_reads.specs.Moves.{Moves}
use Rattle.gate_ruling.proofs.Folded.{moves_on}
use Rattle.gate_ruling.proofs.Put.{anew_moves}
use Rattle.gate_ruling.proofs.changing.put_anew.Goals as goal

pub returns : goal.returns
returns c = λ x t rises moves.
    let k = c.args.change in
    let after = put_change k (without_ready k.number t) in
    let last : List Edit = edit.PutChange k None ∷ [] in
    subst (λ es. Moves x es after) (sym c.in_ok-push.ensures.items)
    (moves_on x t after c.args.edits.items last moves (anew_moves x t k rises))

use Rattle.std.proofs.Common.{◌≡◌, drop, fold}
use Rattle.gate_admission.specs.Seen.{later, put_below, last_put_below}
use Rattle.gate_admission.proofs.items.last_put_below.Given as goal

abbrev pub invariant-loop-edit : goal.invariant-loop-edit
invariant-loop-edit l =
    fold (λ last e. later last (put_below l.queue l.below e)) l.last (drop l.edit-index l.edits) ≡
    last_put_below l.queue l.below l.edits

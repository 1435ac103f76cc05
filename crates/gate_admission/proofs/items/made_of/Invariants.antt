use Rattle.std.proofs.Common.{◌≡◌, drop, fold}
use Rattle.gate_admission.specs.Seen.{fate_after}
use Rattle.gate_admission.specs.declared.items.Fate.TheVariants as fate
use Rattle.gate_admission.proofs.items.made_of.Given as goal

abbrev pub invariant-loop-edit : goal.invariant-loop-edit
invariant-loop-edit l =
    fold (fate_after l.queue l.serial) l.found (drop l.edit-index l.edits) ≡
    fold (fate_after l.queue l.serial) fate.Stays l.edits

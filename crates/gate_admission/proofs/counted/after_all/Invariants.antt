use Rattle.std.proofs.Common.{◌≡◌, drop, fold}
use Rattle.gate_types.specs.Tables.{edited_counters}
use Rattle.gate_admission.proofs.counted.after_all.Given as goal

abbrev pub invariant-loop-edit : goal.invariant-loop-edit
invariant-loop-edit l = fold edited_counters l.drawn (drop l.edit-index l.edits) ≡
    fold edited_counters l.fn.drawn l.edits

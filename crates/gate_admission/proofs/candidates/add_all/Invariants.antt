use Rattle.std.proofs.Common.{◌≡◌, ℕ, fold, take}
use Rattle.std.specs.Ordering.{nat_cmp}
use Rattle.std.specs.BTreeMap.{get}
use Rattle.gate_admission.specs.Candidates.{change_under}
use Rattle.gate_admission.proofs.candidates.add_all.Given as goal

abbrev pub invariant-loop-row : goal.invariant-loop-row
invariant-loop-row l = (a : ℕ) →
    get nat_cmp l.waiting a ≡ fold (change_under a) (get nat_cmp l.fn.waiting a) (take l.row-index l.rows)

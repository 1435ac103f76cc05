use Rattle.std.specs.BTreeMap.{btree_map_len}
use Rattle.gate_types.specs.State.{State}
use Rattle.gate_book_trait.specs.Kept.{OfHeldUnder, IsKept}
use Rattle.gate_admission.specs.Led.{IsLed}
use Rattle.gate_admission.specs.Candidates.{AreCandidates}
use Rattle.gate_admission.proofs.passing.first_to_enter.Given as goal

abbrev pub invariant-loop-ready : goal.invariant-loop-ready
invariant-loop-ready g l = record {
  kept : IsKept g.B.Book.IsTrusted g.B.Book.Holds g.B.Book.LeavesOneOf l.fn.book l.book;
  found : OfHeldUnder g.B.Book.IsTrusted g.B.Book.Holds l.fn.book l.book l.config (λ x. (v : State) →
      IsLed l.config x l.edits v → AreCandidates l.config v l.fn.waiting → AreCandidates l.config v l.waiting);
}

abbrev pub decreases-loop-ready : goal.decreases-loop-ready
decreases-loop-ready g l = btree_map_len l.waiting

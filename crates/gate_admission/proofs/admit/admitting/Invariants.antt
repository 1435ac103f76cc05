use Rattle.std.proofs.Common.{◌≤◌}
use Rattle.gate_types.specs.State.{State}
use Rattle.gate_book_trait.specs.Kept.{IsKept, OfHeldUnder}
use Rattle.gate_admission.specs.Led.{IsLed}
use Rattle.gate_admission.specs.Candidates.{EntersByEdits}
use Rattle.gate_admission.proofs.Tries.{AreEntering}
use Rattle.gate_admission.proofs.admit.admitting.Given as goal
use Rattle.gate_types.specs.Counters.{last_number}

abbrev pub invariant-loop-order : goal.invariant-loop-order
invariant-loop-order g l = record {
  kept : IsKept g.B.Book.IsTrusted g.B.Book.Holds g.B.Book.LeavesOneOf l.fn.book l.book;
  low : l.order ≤ last_number;
  found : OfHeldUnder g.B.Book.IsTrusted g.B.Book.Holds l.fn.book l.book l.config (λ x. (v : State) →
      IsLed l.config x l.fn.edits.items v → EntersByEdits l.config x.state l.fn.edits.items v →
      AreEntering l.config x l.edits.items l.order v l.waiting);
}

use Rattle.std.proofs.Common.{◌≡◌, List, drop}
use Rattle.gate_types.specs.State.{Queue}
use Rattle.gate_types.specs.Line.{Place}
use Rattle.gate_book_trait.specs.Kept.{OfHeldUnder, IsKept}
use Rattle.gate_reads.specs.Parts.{ahead_behind, AreBehind, AreTold}
use Rattle.gate_reads.proofs.Along.{Along}
use Rattle.gate_reads.proofs.part.build_of_part.Given as goal

abbrev pub invariant-loop-item : goal.invariant-loop-item
invariant-loop-item g l = record {
  kept : IsKept g.B.Book.IsTrusted g.B.Book.Holds g.B.Book.LeavesOneOf l.fn.book l.book;
  along : OfHeldUnder g.B.Book.IsTrusted g.B.Book.Holds l.fn.book l.book l.config
      (λ x. (q : Queue) (ps : List Place) → AreBehind l.config x.state l.queue l.fn.ahead l.part.items q ps →
      AreTold x.state l.part →
      Along l.config x.state l.queue q ps l.ahead (drop l.item-index l.part.items) l.left);
  ahead : ahead_behind l.ahead (drop l.item-index l.part.items) ≡ ahead_behind l.fn.ahead l.part.items;
}

use Rattle.gate_types.specs.Tables.{tables}
use Rattle.gate_book_trait.specs.Kept.{OfHeld, IsKept}
use Rattle.gate_live.specs.HeldChanges.{AreRowsOf, AreKeptChanges, changes_held}
use Rattle.gate_live.proofs.change_reads.hold_changes.Given as goal

abbrev pub invariant-loop-item : goal.invariant-loop-item
invariant-loop-item g l = record {
  sound : AreKeptChanges l.held;
  kept : IsKept g.B.Book.IsTrusted g.B.Book.Holds g.B.Book.LeavesOneOf l.fn.book l.book;
  rows : OfHeld g.B.Book.IsTrusted g.B.Book.Holds l.fn.book l.book (λ c x.
      AreRowsOf (changes_held l.fn.held) (tables c x).changes → AreRowsOf (changes_held l.held) (tables c x).changes);
}

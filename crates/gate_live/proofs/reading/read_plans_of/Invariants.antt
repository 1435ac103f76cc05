use Rattle.gate_book_trait.specs.Kept.{OfHeld, IsKept}
use Rattle.gate_live.specs.Parts.{Agrees}
use Rattle.gate_live.proofs.reading.read_plans_of.Given as goal

abbrev pub invariant-loop-item : goal.invariant-loop-item
invariant-loop-item g l = record {
  kept : IsKept g.B.Book.IsTrusted g.B.Book.Holds g.B.Book.LeavesOneOf l.fn.book l.book;
  agrees : OfHeld g.B.Book.IsTrusted g.B.Book.Holds l.fn.book l.book (λ c x. Agrees l.fn.live c x → Agrees l.live c x);
}

use Rattle.std.proofs.Common.{◌≡◌, take}
use Rattle.gate_book_trait.specs.Kept.{OfHeld, IsKept}
use Rattle.gate_book_trait.specs.Reads.{items_in}
use Rattle.gate_settling.specs.Rows.{needing_any, AreKept}
use Rattle.gate_settling.proofs.needing.Needing.ask.Given as goal

abbrev pub invariant-loop-index : goal.invariant-loop-index
invariant-loop-index g l = record {
  kept : IsKept g.B.Book.IsTrusted g.B.Book.Holds g.B.Book.LeavesOneOf l.fn.book l.book;
  rows : OfHeld g.B.Book.IsTrusted g.B.Book.Holds l.fn.book l.book (λ c x. AreKept x.state l.gone l.above
      (items_in c x.state l.queue) l.fn.self.rows.items l.fn.self.asked →
      l.self.rows.items ≡ needing_any x.state (take l.index l.gone) l.above (items_in c x.state l.queue));
}

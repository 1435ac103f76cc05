use Rattle.std.proofs.Common.{◌≡◌, ◌+◌, ◌≤◌, length, take}
use Rattle.gate_book_trait.specs.Kept.{OfHeld, IsKept}
use Rattle.gate_book_trait.specs.Reads.{items_in}
use Rattle.gate_admission.specs.Seen.{items_after}
use Rattle.gate_admission.proofs.room.count_moves.Given as goal

abbrev pub invariant-loop-index : goal.invariant-loop-index
invariant-loop-index g l = record {
  kept : IsKept g.B.Book.IsTrusted g.B.Book.Holds g.B.Book.LeavesOneOf l.fn.book l.book;
  added : l.added ≤ l.index;
  dropped : l.dropped ≤ l.index;
  found : OfHeld g.B.Book.IsTrusted g.B.Book.Holds l.fn.book l.book (λ c x.
      length (items_after l.queue (items_in c x.state l.queue) (take l.index l.edits)) + l.dropped ≡
      length (items_in c x.state l.queue) + l.added);
}

use Rattle.std.proofs.Common.{◌≡◌}
use Rattle.gate_book_trait.specs.Kept.{OfHeld, IsKept}
use Rattle.gate_book_trait.specs.Reads.{items_in, last_item_below}
use Rattle.gate_admission.specs.Seen.{items_after}
use Rattle.gate_admission.proofs.items.last_below.Given as goal

abbrev pub invariant-loop-next : goal.invariant-loop-next
invariant-loop-next g l = record {
  kept : IsKept g.B.Book.IsTrusted g.B.Book.Holds g.B.Book.LeavesOneOf l.fn.book l.book;
  found : OfHeld g.B.Book.IsTrusted g.B.Book.Holds l.fn.book l.book (λ c x.
      last_item_below l.end (items_after l.queue (items_in c x.state l.queue) l.edits) ≡
      last_item_below l.below (items_after l.queue (items_in c x.state l.queue) l.edits));
}

abbrev pub decreases-loop-next : goal.decreases-loop-next
decreases-loop-next g l = l.end

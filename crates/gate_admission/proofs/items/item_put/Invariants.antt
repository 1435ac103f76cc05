use Rattle.std.proofs.Common.{◌≡◌, drop}
use Rattle.gate_book_trait.specs.Kept.{OfHeld, IsKept}
use Rattle.gate_book_trait.specs.Reads.{items_in}
use Rattle.gate_admission.specs.Seen.{item_put, items_after}
use Rattle.gate_admission.proofs.items.item_put.Given as goal

abbrev pub invariant-loop-edit : goal.invariant-loop-edit
invariant-loop-edit g l = record {
  kept : IsKept g.B.Book.IsTrusted g.B.Book.Holds g.B.Book.LeavesOneOf l.fn.book l.book;
  found : OfHeld g.B.Book.IsTrusted g.B.Book.Holds l.fn.book l.book (λ c x.
      item_put l.change (items_after l.queue (items_in c x.state l.queue) l.edits) (drop l.edit-index l.edits) ≡
      item_put l.change (items_after l.queue (items_in c x.state l.queue) l.edits) l.edits);
}

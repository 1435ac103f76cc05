use Rattle.std.proofs.Common.{◌≡◌, take}
use Rattle.std.specs.List.{list_all}
use Rattle.gate_book_trait.specs.Kept.{OfHeld, IsKept}
use Rattle.gate_texts.specs.Ahead.{is_met}
use Rattle.gate_texts.proofs.ahead.are_met.Given as goal

abbrev pub invariant-loop-need : goal.invariant-loop-need
invariant-loop-need g l = record {
  kept : IsKept g.B.Book.IsTrusted g.B.Book.Holds g.B.Book.LeavesOneOf l.fn.book l.book;
  met : OfHeld g.B.Book.IsTrusted g.B.Book.Holds l.fn.book l.book
      (λ c x. l.met ≡ list_all (is_met c x.state l.queue l.serial) (take l.need-index l.needs));
}

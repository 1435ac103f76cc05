use Rattle.std.proofs.Common.{◌≡◌, map, take}
use Rattle.gate_book_trait.specs.Kept.{OfHeld, IsKept}
use Rattle.gate_settling.specs.Rows.{need_now}
use Rattle.gate_settling.proofs.rows.needs_now.Given as goal

abbrev pub invariant-loop-change : goal.invariant-loop-change
invariant-loop-change g l = record {
  kept : IsKept g.B.Book.IsTrusted g.B.Book.Holds g.B.Book.LeavesOneOf l.fn.book l.book;
  needs : OfHeld g.B.Book.IsTrusted g.B.Book.Holds l.fn.book l.book
      (λ c x. l.needs.items ≡ map (need_now c x.state l.touched) (take l.change-index l.changes));
}

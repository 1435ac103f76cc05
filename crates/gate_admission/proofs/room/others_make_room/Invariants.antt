use Rattle.std.proofs.Common.{◌≡◌, false, take}
use Rattle.std.specs.List.{list_any}
use Rattle.gate_book_trait.specs.Kept.{OfHeld, IsKept}
use Rattle.gate_admission.specs.Candidates.{is_full, makes_room}
use Rattle.gate_admission.proofs.room.others_make_room.Given as goal

abbrev pub invariant-loop-edit : goal.invariant-loop-edit
invariant-loop-edit g l = record {
  kept : IsKept g.B.Book.IsTrusted g.B.Book.Holds g.B.Book.LeavesOneOf l.fn.book l.book;
  found : OfHeld g.B.Book.IsTrusted g.B.Book.Holds l.fn.book l.book (λ c x. is_full x.state l.queue ≡ false →
      list_any (makes_room x.state) (take l.edit-index l.edits) ≡ false);
}

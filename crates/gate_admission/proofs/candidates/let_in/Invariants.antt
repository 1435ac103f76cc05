use Rattle.std.proofs.Common.{◌≡◌, ◌++◌, flat_map, take}
use Rattle.gate_book_trait.specs.Kept.{OfHeld, IsKept}
use Rattle.gate_admission.specs.Candidates.{put_ready, let_in_by}
use Rattle.gate_admission.proofs.candidates.let_in.Given as goal

abbrev pub invariant-loop-edit : goal.invariant-loop-edit
invariant-loop-edit g l = record {
  kept : IsKept g.B.Book.IsTrusted g.B.Book.Holds g.B.Book.LeavesOneOf l.fn.book l.book;
  found : OfHeld g.B.Book.IsTrusted g.B.Book.Holds l.fn.book l.book (λ c x.
      l.all.items ≡ put_ready l.edits ++ flat_map (let_in_by x.state l.edits) (take l.edit-index l.edits));
}

use Rattle.std.proofs.Common.{◌≡◌, take}
use Rattle.std.specs.Prelude.{string_bytes, flat_map}
use Rattle.gate_types.specs.Status.{waiting_row}
use Rattle.gate_book_trait.specs.Kept.{OfHeld, IsKept}
use Rattle.gate_texts.proofs.status_text.ready_text.Given as goal

abbrev pub invariant-loop-waiting : goal.invariant-loop-waiting
invariant-loop-waiting g l = record {
  kept : IsKept g.B.Book.IsTrusted g.B.Book.Holds g.B.Book.LeavesOneOf l.fn.book l.book;
  shown : OfHeld g.B.Book.IsTrusted g.B.Book.Holds l.fn.book l.book
      (λ c x. string_bytes l.text ≡ flat_map (waiting_row x.state) (take l.waiting-index l.ready));
}

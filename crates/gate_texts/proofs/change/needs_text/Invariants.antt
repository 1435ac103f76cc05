use Rattle.std.proofs.Common.{◌≡◌, [], map, take}
use Rattle.std.specs.Prelude.{string_bytes}
use Rattle.gate_types.specs.JsonText.{joined}
use Rattle.gate_archive.specs.ChangeText.{need_piece}
use Rattle.gate_book_trait.specs.Kept.{OfHeld, IsKept}
use Rattle.gate_texts.proofs.change.needs_text.Given as goal

abbrev pub invariant-loop-need : goal.invariant-loop-need
invariant-loop-need g l = record {
  kept : IsKept g.B.Book.IsTrusted g.B.Book.Holds g.B.Book.LeavesOneOf l.fn.book l.book;
  told : OfHeld g.B.Book.IsTrusted g.B.Book.Holds l.fn.book l.book
      (λ c x. string_bytes l.list ≡ joined (map (need_piece c x.state) (take l.need-index l.needs)) []);
}

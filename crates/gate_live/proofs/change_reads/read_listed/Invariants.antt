use Rattle.std.proofs.Common.{◌≡◌, take}
use Rattle.gate_types.specs.Tables.{tables}
use Rattle.gate_book_trait.specs.Kept.{OfHeld, IsKept}
use Rattle.gate_live.specs.HeldChanges.{AreKeptChanges, changes_held}
use Rattle.gate_live.proofs.ReadChangeLemmas.{AreRead}
use Rattle.gate_live.proofs.change_reads.read_listed.Given as goal

abbrev pub invariant-loop-ready : goal.invariant-loop-ready
invariant-loop-ready g l = record {
  sound : AreKeptChanges l.held;
  kept : IsKept g.B.Book.IsTrusted g.B.Book.Holds g.B.Book.LeavesOneOf l.fn.book l.book;
  told : OfHeld g.B.Book.IsTrusted g.B.Book.Holds l.fn.book l.book (λ c x. l.list ≡ x.state.ready →
      AreRead (changes_held l.held) (tables c x).changes (take l.ready-index l.list));
}

use Rattle.std.proofs.Common.{◌≡◌, map, take}
use Rattle.gate_book_trait.specs.Kept.{OfHeld, IsKept}
use Rattle.gate_admission.specs.Led.{IsLed}
use Rattle.gate_types.specs.State.{State, need_of}
use Rattle.gate_admission.proofs.known_changes.needs_with.Given as goal

abbrev pub invariant-loop-number : goal.invariant-loop-number
invariant-loop-number g l = record {
  kept : IsKept g.B.Book.IsTrusted g.B.Book.Holds g.B.Book.LeavesOneOf l.fn.book l.book;
  found : OfHeld g.B.Book.IsTrusted g.B.Book.Holds l.fn.book l.book (λ c x. (v : State) →
      IsLed c x l.edits v → l.needs.items ≡ map (need_of v) (take l.number-index l.numbers));
}

use Rattle.std.proofs.Common.{◌≡◌, ◌&&◌, drop}
use Rattle.std.specs.List.{list_all}
use Rattle.gate_types.specs.State.{State}
use Rattle.gate_book_trait.specs.Kept.{OfHeld, IsKept}
use Rattle.gate_book_trait.specs.Reads.{items_in}
use Rattle.gate_admission.specs.Led.{IsLed}
use Rattle.gate_admission.specs.Known.{IsQueue}
use Rattle.gate_admission.specs.Enters.{is_met_by_rows, is_there}
use Rattle.gate_admission.proofs.entering.all_met.Given as goal

abbrev pub invariant-loop-need : goal.invariant-loop-need
invariant-loop-need g l = record {
  kept : IsKept g.B.Book.IsTrusted g.B.Book.Holds g.B.Book.LeavesOneOf l.fn.book l.book;
  there : OfHeld g.B.Book.IsTrusted g.B.Book.Holds l.fn.book l.book (λ c x. (v : State) →
      IsLed c x l.edits v → IsQueue v l.queue →
      list_all (is_there (items_in c v l.queue)) (drop l.need-index l.needs) ≡
      list_all (is_there (items_in c v l.queue)) l.needs);
  fine : OfHeld g.B.Book.IsTrusted g.B.Book.Holds l.fn.book l.book (λ c x. (v : State) →
      IsLed c x l.edits v → IsQueue v l.queue →
      (l.all_fine && list_all (is_met_by_rows (items_in c v l.queue)) (drop l.need-index l.needs)) ≡
      list_all (is_met_by_rows (items_in c v l.queue)) l.needs);
}

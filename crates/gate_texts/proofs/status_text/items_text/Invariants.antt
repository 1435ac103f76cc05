use Rattle.std.proofs.Common.{◌≡◌, Some, ◌-◌}
use Rattle.std.specs.Prelude.{string_bytes}
use Rattle.gate_types.specs.State.{Queue}
use Rattle.gate_book_trait.specs.Kept.{OfHeldUnder, IsKept}
use Rattle.gate_book_trait.specs.Reads.{queue_named}
use Rattle.gate_texts.proofs.Shown.{Shown}
use Rattle.gate_texts.proofs.status_text.items_text.Given as goal
use Rattle.gate_types.specs.Counters.{last_number}

abbrev pub invariant-along : goal.invariant-along
invariant-along g l = record {
  kept : IsKept g.B.Book.IsTrusted g.B.Book.Holds g.B.Book.LeavesOneOf l.fn.book l.book;
  shown : OfHeldUnder g.B.Book.IsTrusted g.B.Book.Holds l.fn.book l.book l.config
      (λ x. (q : Queue) → queue_named x.state l.queue ≡ Some q →
      Shown l.config x.state q l.above l.ahead (string_bytes l.text));
}

abbrev pub decreases-along : goal.decreases-along
decreases-along g l = last_number - l.above

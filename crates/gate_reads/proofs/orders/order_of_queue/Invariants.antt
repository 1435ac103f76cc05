use Rattle.std.proofs.Common.{◌≡◌, Some, ◌-◌}
use Rattle.gate_types.specs.State.{Queue}
use Rattle.gate_book_trait.specs.Kept.{OfHeldUnder, IsKept}
use Rattle.gate_book_trait.specs.Reads.{queue_named}
use Rattle.gate_reads.proofs.Passing.{Passed}
use Rattle.gate_reads.proofs.orders.order_of_queue.Given as goal
use Rattle.gate_types.specs.Counters.{last_number}

abbrev pub invariant-loop-item : goal.invariant-loop-item
invariant-loop-item g l = record {
  kept : IsKept g.B.Book.IsTrusted g.B.Book.Holds g.B.Book.LeavesOneOf l.fn.book l.book;
  passed : OfHeldUnder g.B.Book.IsTrusted g.B.Book.Holds l.fn.book l.book l.config
      (λ x. (q : Queue) → queue_named x.state l.queue ≡ Some q → Passed l.config x.state q l.above);
}

abbrev pub decreases-loop-item : goal.decreases-loop-item
decreases-loop-item g l = last_number - l.above

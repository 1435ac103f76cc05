use Rattle.std.proofs.Common.{◌≡◌, Some, ◌-◌}
use Rattle.gate_types.specs.State.{Queue}
use Rattle.gate_book_trait.specs.Kept.{OfHeldUnder, IsKept}
use Rattle.gate_book_trait.specs.Reads.{queue_named}
use Rattle.gate_reads.proofs.Trying.{Tried}
use Rattle.gate_reads.proofs.choosing.first_build.Given as goal
use Rattle.gate_types.specs.Counters.{last_number}

abbrev pub invariant-along : goal.invariant-along
invariant-along g l = record {
  kept : IsKept g.B.Book.IsTrusted g.B.Book.Holds g.B.Book.LeavesOneOf l.fn.book l.book;
  tried : OfHeldUnder g.B.Book.IsTrusted g.B.Book.Holds l.fn.book l.book l.config
      (λ x. (q : Queue) → queue_named x.state l.queue ≡ Some q → l.window ≡ q.window →
      Tried l.config x.state q l.above l.left l.ahead);
}

abbrev pub decreases-along : goal.decreases-along
decreases-along g l = last_number - l.above

use Rattle.std.proofs.Common.{◌≡◌, Some, List, ◌-◌}
use Rattle.gate_types.specs.declared.records.Build.{Build}
use Rattle.gate_types.specs.State.{Queue}
use Rattle.gate_book_trait.specs.Kept.{OfHeld, IsKept}
use Rattle.gate_book_trait.specs.Reads.{queue_named}
use Rattle.gate_texts.specs.Running.{OfBuilds}
use Rattle.gate_texts.proofs.RunningBuilds.{Along}
use Rattle.gate_texts.proofs.running.push_queue.Given as goal
use Rattle.gate_types.specs.Counters.{last_number}

abbrev pub invariant-along : goal.invariant-along
invariant-along g l = record {
  kept : IsKept g.B.Book.IsTrusted g.B.Book.Holds g.B.Book.LeavesOneOf l.fn.book l.book;
  told : OfHeld g.B.Book.IsTrusted g.B.Book.Holds l.fn.book l.book
      (λ c x. (q : Queue) → queue_named x.state l.queue ≡ Some q → (before : List Build) →
      OfBuilds l.fn.running before → Along c x.state q l.above before l.running);
}

abbrev pub decreases-along : goal.decreases-along
decreases-along g l = last_number - l.above

use Rattle.std.proofs.Common.{◌≡◌}
use Rattle.gate_types.specs.Choice.{choose}
use Rattle.gate_book_trait.specs.Kept.{OfHeldUnder, IsKept}
use Rattle.gate_reads.proofs.Queues.{choice_from}
use Rattle.gate_reads.proofs.choosing.next_build.Given as goal

abbrev pub invariant-loop-queue : goal.invariant-loop-queue
invariant-loop-queue g l = record {
  kept : IsKept g.B.Book.IsTrusted g.B.Book.Holds g.B.Book.LeavesOneOf l.fn.book l.book;
  choice : OfHeldUnder g.B.Book.IsTrusted g.B.Book.Holds l.fn.book l.book l.config
      (λ x. choose l.config x.state ≡ choice_from l.config x.state l.queue-index);
}

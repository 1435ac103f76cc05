use Rattle.gate_book_trait.specs.Kept.{OfHeldUnder, IsKept}
use Rattle.gate_texts.proofs.RunningBuilds.{Before}
use Rattle.gate_texts.proofs.running.running_of.Given as goal

abbrev pub invariant-loop-queue : goal.invariant-loop-queue
invariant-loop-queue g l = record {
  kept : IsKept g.B.Book.IsTrusted g.B.Book.Holds g.B.Book.LeavesOneOf l.fn.book l.book;
  told : OfHeldUnder g.B.Book.IsTrusted g.B.Book.Holds l.fn.book l.book l.config
      (λ x. Before x.state l.queue-index l.running);
}

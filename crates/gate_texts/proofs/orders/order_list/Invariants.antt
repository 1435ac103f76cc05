use Rattle.std.specs.Prelude.{string_bytes}
use Rattle.gate_book_trait.specs.Kept.{OfHeldUnder, IsKept}
use Rattle.gate_texts.proofs.Listed.{Listed}
use Rattle.gate_texts.proofs.orders.order_list.Given as goal

abbrev pub invariant-loop-queue : goal.invariant-loop-queue
invariant-loop-queue g l = record {
  kept : IsKept g.B.Book.IsTrusted g.B.Book.Holds g.B.Book.LeavesOneOf l.fn.book l.book;
  listed : OfHeldUnder g.B.Book.IsTrusted g.B.Book.Holds l.fn.book l.book l.config
      (λ x. Listed l.config x.state l.queue-index (string_bytes l.list));
}

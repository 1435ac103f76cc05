use Rattle.std.proofs.Common.{◌≤◌, ◌-◌}
use Rattle.std.specs.Prelude.{IfSome}
use Rattle.std.specs.Option.{option_map_or}
use Rattle.gate_walk.specs.UnderWay.{Starts}
use Rattle.gate_book_trait.specs.Kept.{OfHeldUnder, IsKept}
use Rattle.gate_book_trait.specs.Reads.{items_in}
use Rattle.gate_settling.specs.Rows.{AreKept}
use Rattle.gate_settling.specs.Touching.{Touching, delivered}
use Rattle.gate_settling.proofs.WantedLemmas.{IsUnderWay}
use Rattle.gate_settling.proofs.walking.walked.Given as goal

abbrev pub invariant-loop-next : goal.invariant-loop-next
invariant-loop-next g l = record {
  kept : IsKept g.B.Book.IsTrusted g.B.Book.Holds g.B.Book.LeavesOneOf l.fn.book l.book;
  under_way : OfHeldUnder g.B.Book.IsTrusted g.B.Book.Holds l.fn.book l.book l.config (λ x.
      (h : Touching l.config x l.touched) → Starts (delivered h) l.fn.begun → IsUnderWay h l.walk l.next ×
      IfSome l.next (λ r. AreKept x.state l.walk.carry.gone r.serial (items_in l.config x.state l.touched.queue)
      l.needing.rows.items l.needing.asked));
  behind : IfSome l.next (λ r. l.touched.item.serial ≤ r.serial);
}

abbrev pub decreases-loop-next : goal.decreases-loop-next
decreases-loop-next g l = option_map_or (λ r. 1000000000000001 - r.serial) l.next 0

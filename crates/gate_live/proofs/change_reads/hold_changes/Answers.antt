use Rattle.gate_book_trait.proofs.KeptLemmas.{then}
use Rattle.gate_live.proofs.change_reads.hold_changes.Goals as goal

pub loop-item-preserved : goal.loop-item-preserved
loop-item-preserved g c =
    let before = c.loop-item.invariant in
    record {
      sound = c.in_ok-hold_change.ensures.sound;
      kept = then before.kept c.in_ok-hold_change.ensures.reads.kept;
      rows = λ trusted k x holds lawful old.
          let early = c.in_ok-hold_change.ensures.reads.kept.trusted_before trusted in
          c.in_ok-hold_change.ensures.rows trusted k x (before.kept.holds_on early k x holds) lawful (before.rows early k x holds lawful old);
    }

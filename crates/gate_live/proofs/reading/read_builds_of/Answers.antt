use Rattle.gate_book_trait.proofs.KeptLemmas.{then}
use Rattle.gate_live.proofs.reading.read_builds_of.Goals as goal

pub loop-item-preserved : goal.loop-item-preserved
loop-item-preserved g c =
    let before = c.loop-item.invariant in
    let read = c.in_ok-hold_builds.ensures in
    record {
      kept = then before.kept read.reads.kept;
      agrees = λ trusted k x holds lawful old.
          let early = read.reads.kept.trusted_before trusted in
          read.agrees trusted k x (before.kept.holds_on early k x holds) lawful (before.agrees early k x holds lawful old);
    }

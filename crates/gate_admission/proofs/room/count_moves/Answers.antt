use Rattle.std.proofs.Common.{◌≡◌, ◌+◌, length, take, ap, arith}
use Rattle.gate_book_trait.specs.Reads.{items_in}
use Rattle.gate_book_trait.proofs.KeptLemmas.{then}
use Rattle.gate_types.specs.Rows.{edited_items}
use Rattle.gate_admission.specs.Seen.{items_after, grows, shrinks, one_if}
use Rattle.gate_admission.proofs.QueueItems.{rising_after}
use Rattle.gate_admission.proofs.Standing.{items_rise}
use Rattle.gate_admission.proofs.Sizes.{size_step, after_more, one_if_most}
use Rattle.gate_admission.proofs.room.count_moves.Goals as goal

pub loop-index-preserved : goal.loop-index-preserved
loop-index-preserved g c = record {
  kept = then (then c.loop-index.invariant.kept c.in_ok-is_more.ensures.kept) c.in_ok-is_less.ensures.kept;
  added = let one = one_if_most c.in_ok-is_more.is_more in
      omega (arith, one, c.one_more_if-added.ensures, c.loop-index.invariant.added);
  dropped = let one = one_if_most c.in_ok-is_less.is_less in
      omega (arith, one, c.one_more_if-dropped.ensures, c.loop-index.invariant.dropped);
  found = λ trusted s x holds lawful.
      let name = c.args.queue.now in
      let edits = c.args.edits.now in
      let rows = items_in s x.state name in
      let before = take c.loop-index.index edits in
      let all = items_after name rows before in
      let e = c.index-edits-index.result in
      let up = rising_after name rows before (items_rise s x.state name lawful.lawful.sound) in
      let one = c.in_ok-is_less.ensures.kept.trusted_before trusted in
      let zero = c.in_ok-is_more.ensures.kept.trusted_before one in
      let start = c.loop-index.invariant.kept.holds_on zero s x holds in
      let next = c.in_ok-is_more.ensures.kept.holds_on one s x start in
      let more : length (items_after name rows (take (c.loop-index.index + 1) edits)) ≡
      length (edited_items name all e) =
      ap length (after_more name rows edits c.loop-index.index e c.loop-index-test.true c.index-edits-index.is) in
      let is_more : one_if c.in_ok-is_more.is_more ≡ one_if (grows name all e) =
      ap one_if (c.in_ok-is_more.ensures.found one s x start lawful) in
      let is_less : one_if c.in_ok-is_less.is_less ≡ one_if (shrinks all e) =
      ap one_if (c.in_ok-is_less.ensures.found trusted s x next lawful) in
      let step = size_step name all e up in
      let sum = c.loop-index.invariant.found zero s x holds lawful in
      omega (arith, more, is_more, is_less, step, sum, c.one_more_if-added.ensures, c.one_more_if-dropped.ensures);
}

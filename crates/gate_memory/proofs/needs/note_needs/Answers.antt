use Rattle.std.proofs.Common.{◌≡◌, ◌⊎◌, inr, ⊎_elim, sym, ap, subst, take, arith}
use Rattle.std.specs.List.{AllByRecursion}
use Rattle.gate_types.specs.State.{put_by}
use Rattle.gate_types.specs.Rising.{In}
use Rattle.gate_memory.specs.Needs.{IsSmall, TellsNeedsOf, pair_of_need}
use Rattle.gate_memory.specs.Pairs.{pair_key, IsFit}
use Rattle.gate_memory.specs.declared.pairs.Pair.{Pair}
use Rattle.gate_book_trait.proofs.Finding.{in_weaker, all_in}
use Rattle.gate_memory.proofs.BuildLemmas.{all_put, in_put, still_in}
use Rattle.gate_memory.proofs.NeedLemmas.{small_fit, all_more}
use Rattle.gate_memory.proofs.PairLemmas.{same_pair}
use Rattle.gate_memory.proofs.IndexLemmas.{put_in}
use Rattle.gate_memory.proofs.NeedChangeLemmas.{in_at}
use Rattle.gate_memory.proofs.needs.note_needs.Goals as goal

pub loop-need-preserved : goal.loop-need-preserved
loop-need-preserved c =
    let before = c.loop-need.invariant in
    let n = c.args.number in
    let m = c.need-item.result in
    let old = c.loop-need.index.items in
    let new = c.put.new.rows.items in
    let pair : Pair = pair_of_need m n in
    let small : IsSmall pair = omega (arith, c.get-in-loop-need.ensures.range) in
    let fit : IsFit pair = omega (arith, small) in
    let is : new ≡ put_by pair_key pair old = rw (c.get.ensures.value, c.get-in-loop-need.ensures.value) at c.put.ensures.rows in
    let stays : (p : Pair) → In p old → In p new = λ p there. rw is (still_in pair_key pair p old
    (λ e. same_pair p pair (all_in IsFit old p (small_fit old before.order.small) there) fit e) there) in
    let itself : In pair new = rw is (in_put pair_key pair old) in
    let smalls : AllByRecursion IsSmall new = rw is (all_put IsSmall pair_key pair old small before.order.small) in
    let told : TellsNeedsOf new n (take c.loop-need.need-index c.args.needs.now) =
    in_weaker (λ k. In (pair_of_need k n) old) (λ k. In (pair_of_need k n) new) (λ k t. stays (pair_of_need k n) t) (take c.loop-need.need-index c.args.needs.now) before.told in
    let needed : In m c.args.needs.now = subst (λ k. In k c.args.needs.now) (sym c.need-item.is) (in_at c.args.needs.now c.loop-need.need-index m c.loop-need-test.true) in
    let back : (p : Pair) → In p new → In p c.args.index.now.items ⊎ ((p.second ≡ n) × In p.first c.args.needs.now) = λ p there.
    let t : In p (put_by pair_key pair old) = rw is at there in
    ⊎_elim
    (λ e. inr (sym (ap (λ (q : Pair). q.second) e), subst (λ (q : Pair). In q.first c.args.needs.now) e needed))
    (λ u. before.back p u.0)
    (put_in pair_key pair p 0 old before.order.rise t) in
    record {
      order = record { rise = c.put.ensures.rising; small = smalls };
      told = all_more (λ k. In (pair_of_need k n) new) c.args.needs.now c.loop-need.need-index m c.loop-need-test.true c.need-item.is told itself;
      others = λ p there. stays p (before.others p there);
      back = back;
      len = omega (arith, before.len, c.put.ensures.len);
      capacity = omega (arith, before.capacity, c.put.ensures.capacity);
    }

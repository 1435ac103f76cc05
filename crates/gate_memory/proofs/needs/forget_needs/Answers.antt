use Rattle.std.proofs.Common.{◌≡◌, ◌≢◌, not, true, refl, ap, take, arith}
use Rattle.std.specs.Prelude.{◌==◌}
use Rattle.std.specs.List.{AllByRecursion}
use Rattle.gate_types.specs.Rising.{In}
use Rattle.gate_memory.specs.Needs.{IsSmall, TellsNoneOf, pair_of_need}
use Rattle.gate_memory.specs.Pairs.{pair_key, IsFit}
use Rattle.gate_memory.specs.Sorted.{without}
use Rattle.gate_memory.specs.declared.pairs.Pair.{Pair}
use Rattle.gate_book_trait.proofs.Finding.{in_weaker, all_in}
use Rattle.gate_memory.proofs.BuildLemmas.{all_without, in_without}
use Rattle.gate_memory.proofs.IndexLemmas.{other}
use Rattle.gate_memory.proofs.NeedLemmas.{small_fit, all_more, from_filter}
use Rattle.gate_memory.proofs.PairLemmas.{same_pair}
use Rattle.gate_memory.proofs.needs.forget_needs.Goals as goal

pub loop-need-preserved : goal.loop-need-preserved
loop-need-preserved c =
    let before = c.loop-need.invariant in
    let n = c.args.number in
    let m = c.need-item.result in
    let old = c.loop-need.index.items in
    let new = c.remove.new.rows.items in
    let pair : Pair = pair_of_need m n in
    let small : IsSmall pair = omega (arith, c.get-in-loop-need.ensures.range) in
    let fit : IsFit pair = omega (arith, small) in
    let is : new ≡ without pair_key (pair_key pair) old = rw (c.key.ensures, c.paired.ensures.pair, c.get.ensures.value, c.get-in-loop-need.ensures.value) at c.remove.ensures.rows in
    let smalls : AllByRecursion IsSmall new = rw is (all_without IsSmall pair_key (pair_key pair) old before.order.small) in
    let kept : (p : Pair) → In p new → In p old × (not (pair_key p == pair_key pair) ≡ true) = λ p there.
    let t : In p (without pair_key (pair_key pair) old) = rw is at there in
    from_filter (λ (q : Pair). not (pair_key q == pair_key pair)) p old t in
    let stays : (p : Pair) → p.second ≢ n → In p old → In p new = λ p ne there. rw is (in_without pair_key (pair_key pair) p old
    (λ e. ne (ap (λ (q : Pair). q.second) (same_pair p pair (all_in IsFit old p (small_fit old before.order.small) there) fit e))) there) in
    let gone : TellsNoneOf new n (take c.loop-need.need-index c.args.needs.now) =
    in_weaker (λ k. In (pair_of_need k n) old → ⊥) (λ k. In (pair_of_need k n) new → ⊥) (λ k none t. none (kept (pair_of_need k n) t).0)
    (take c.loop-need.need-index c.args.needs.now) before.gone in
    let itself : In pair new → ⊥ = λ t. other pair_key (pair_key pair) pair (kept pair t).1 refl in
    record {
      order = record { rise = c.remove.ensures.rising; small = smalls };
      gone = all_more (λ k. In (pair_of_need k n) new → ⊥) c.args.needs.now c.loop-need.need-index m c.loop-need-test.true c.need-item.is gone itself;
      others = λ p ne there. stays p ne (before.others p ne there);
      back = λ p there. before.back p (kept p there).0;
      len = omega (arith, before.len, c.remove.ensures.len);
      capacity = omega (arith, before.capacity, c.remove.ensures.capacity);
    }

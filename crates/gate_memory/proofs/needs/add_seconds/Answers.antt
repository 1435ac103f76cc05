use Rattle.std.proofs.Common.{◌≡◌, ◌∙◌, ℕ, ap, take, get_or}
use Rattle.std.specs.List.{AllByRecursion}
use Rattle.gate_types.specs.State.{put_by}
use Rattle.gate_types.specs.Rising.{In}
use Rattle.gate_memory.specs.declared.pairs.Pair.{Pair}
use Rattle.gate_book_trait.proofs.Finding.{in_weaker}
use Rattle.gate_memory.proofs.BuildLemmas.{in_put, still_in}
use Rattle.gate_memory.proofs.NeedLemmas.{all_next}
use Rattle.gate_memory.proofs.needs.add_seconds.Goals as goal

pub loop-pair-preserved : goal.loop-pair-preserved
loop-pair-preserved c =
    let before = c.loop-pair.invariant in
    let d : Pair = record { first = 0; second = 0 } in
    let p : Pair = get_or c.args.pairs.now c.loop-pair.pair-index d in
    let key : ℕ → ℕ = λ n. n in
    let old = c.loop-pair.numbers.items in
    let new = c.put.new.rows.items in
    let is : new ≡ put_by key p.second old = c.put.ensures.rows ∙ ap (put_by key p.second) c.reserve.ensures.items in
    let stays : (n : ℕ) → In n old → In n new = λ n there. rw is (still_in key p.second n old (λ e. e) there) in
    let itself : In p.second new = rw is (in_put key p.second old) in
    let told : AllByRecursion (λ (q : Pair). In q.second new) (take c.loop-pair.pair-index c.args.pairs.now) =
    in_weaker (λ (q : Pair). In q.second old) (λ (q : Pair). In q.second new) (λ q t. stays q.second t) (take c.loop-pair.pair-index c.args.pairs.now) before.told in
    record {
      rising = c.put.ensures.rising;
      told = all_next (λ (q : Pair). In q.second new) c.args.pairs.now c.loop-pair.pair-index d c.loop-pair-test.true told itself;
      others = λ n there. stays n (before.others n there);
    }

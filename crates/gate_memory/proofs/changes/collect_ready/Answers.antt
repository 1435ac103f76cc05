use Rattle.std.proofs.Common.{◌≡◌, ◌∙◌, ◌++◌, suc, ◌+◌, [], Option, take, sym, ap, arith}
use Rattle.std.specs.List.{filter_map, cons_option}
use Rattle.gate_types.specs.declared.records.Ready.{Ready}
use Rattle.gate_types.specs.Keys.{number_of_change}
use Rattle.gate_memory.specs.declared.pairs.Pair.{Pair}
use Rattle.gate_memory.specs.Changes.{in_order, ready_by}
use Rattle.gate_memory.proofs.CollectLemmas.{filter_map_next}
use Rattle.gate_memory.proofs.changes.collect_ready.Goals as goal

pub loop-pair-preserved : goal.loop-pair-preserved
loop-pair-preserved c =
    let look : Pair → Option Ready = ready_by (in_order number_of_change c.args.rows.now) in
    let pairs = c.args.pairs.now in
    let k = c.loop-pair.pair-index in
    let d : Pair = record { first = 0; second = 0 } in
    let step : suc k ≡ k + 1 = omega arith in
    c.in_ok-push_ready.ensures ∙ (λ i. c.loop-pair.invariant i ++ cons_option (c.ready_at.ensures i) [])
    ∙ sym (filter_map_next look pairs k d c.loop-pair-test.true) ∙ ap (λ n. filter_map look (take n pairs)) step

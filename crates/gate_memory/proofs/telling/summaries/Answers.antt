use Rattle.std.proofs.Common.{◌≡◌, ◌∙◌, ◌++◌, suc, ◌+◌, [], Option, take, sym, ap, arith}
use Rattle.std.specs.Prelude.{option_map}
use Rattle.std.specs.List.{filter_map, cons_option}
use Rattle.gate_archive.specs.declared.rows.BuildSummary.{BuildSummary}
use Rattle.gate_archive.specs.ItemText.{summary_of}
use Rattle.gate_memory.specs.declared.pairs.Pair.{Pair}
use Rattle.gate_memory.proofs.CollectLemmas.{filter_map_next}
use Rattle.gate_memory.proofs.IndexLemmas.{told_of}
use Rattle.gate_memory.proofs.telling.summaries.Goals as goal

pub loop-pair-preserved : goal.loop-pair-preserved
loop-pair-preserved c =
    let look : Pair → Option BuildSummary = λ p. told_of c.args.rows.now p.second in
    let pairs = c.args.pairs.now in
    let k = c.loop-pair.pair-index in
    let d : Pair = record { first = 0; second = 0 } in
    let step : suc k ≡ k + 1 = omega arith in
    c.in_ok-push_summary.ensures ∙ (λ i. c.loop-pair.invariant i ++ cons_option (option_map summary_of (c.at.ensures i)) [])
    ∙ sym (filter_map_next look pairs k d c.loop-pair-test.true) ∙ ap (λ n. filter_map look (take n pairs)) step

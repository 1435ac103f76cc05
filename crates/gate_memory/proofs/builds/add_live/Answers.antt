use Rattle.std.proofs.Common.{◌≡◌, ◌∙◌, ◌++◌, suc, ◌+◌, [], Option, take, get_or, sym, ap, append_assoc, arith}
use Rattle.std.specs.List.{filter_map, cons_option}
use Rattle.gate_types.specs.declared.records.Build.{Build}
use Rattle.gate_memory.specs.declared.pairs.Pair.{Pair}
use Rattle.gate_memory.specs.Sorted.{passing_at}
use Rattle.gate_memory.specs.Builds.{number_of_build, is_live_of}
use Rattle.gate_memory.proofs.CollectLemmas.{filter_map_next}
use Rattle.gate_memory.proofs.builds.add_live.Goals as goal

pub loop-pair-preserved : goal.loop-pair-preserved
loop-pair-preserved c =
    let look : Pair → Option Build = λ p. passing_at number_of_build (is_live_of c.args.serial) c.args.rows.now p.second in
    let pairs = c.args.pairs.now in
    let k = c.loop-pair.pair-index in
    let d : Pair = record { first = 0; second = 0 } in
    let step : suc k ≡ k + 1 = omega arith in
    let found = c.args.found.now in
    c.in_ok-push_copy.ensures ∙ (λ i. c.loop-pair.invariant i ++ cons_option (c.live_one.ensures i) [])
    ∙ append_assoc found (filter_map look (take k pairs)) (cons_option (look (get_or pairs k d)) [])
    ∙ ap (λ l. found ++ l) (sym (filter_map_next look pairs k d c.loop-pair-test.true) ∙ ap (λ n. filter_map look (take n pairs)) step)

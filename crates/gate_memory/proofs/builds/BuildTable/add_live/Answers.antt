use Rattle.std.proofs.Common.{◌≡◌, ◌∙◌, ◌++◌, ap, arith}
use Rattle.std.specs.Prelude.{◌==◌, Option, filter}
use Rattle.std.specs.List.{filter_map}
use Rattle.gate_types.specs.declared.records.Build.{Build}
use Rattle.gate_memory.specs.declared.pairs.Pair.{Pair}
use Rattle.gate_memory.specs.Sorted.{passing_at}
use Rattle.gate_memory.specs.Builds.{number_of_build, is_live_of}
use Rattle.gate_memory.proofs.CollectLemmas.{collected}
use Rattle.gate_memory.proofs.PairLemmas.{seconds_rise, seconds_of, filter_map_seconds}
use Rattle.gate_memory.proofs.BuildLemmas.{live_are_told}
use Rattle.gate_memory.proofs.builds.BuildTable.add_live.Goals as goal

pub returns : goal.returns
returns c =
    let n = c.args.serial in
    let rows = c.args.self.now.rows.items in
    let live = c.args.self.now.live.items in
    let pairs : c.of_first-pairs.result.now ≡ filter (λ (p : Pair). p.first == n) live = rw (c.get.ensures.value, c.deref.ensures.value) at c.of_first-pairs.ensures in
    let look : Pair → Option Build = λ p. passing_at number_of_build (is_live_of n) rows p.second in
    let found = c.args.found.now in
    let seconds = filter_map_seconds (passing_at number_of_build (is_live_of n) rows) (filter (λ (p : Pair). p.first == n) live) in
    let all = collected number_of_build (is_live_of n) 0 rows c.requires.rows_rise 0 (seconds_of n live)
    (seconds_rise n 0 0 live c.requires.live_rise (λ q h e. omega arith)) (live_are_told n live rows c.requires.live_told) in
    (rw c.deref-2.ensures.value at c.in_ok-add_live.ensures) ∙ ap (λ l. found ++ l) (ap (filter_map look) pairs ∙ seconds ∙ all)

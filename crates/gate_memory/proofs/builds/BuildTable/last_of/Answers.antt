use Rattle.std.proofs.Common.{◌≡◌, ◌∙◌, ap}
use Rattle.std.specs.Prelude.{◌==◌, Option, filter}
use Rattle.std.specs.List.{filter_map}
use Rattle.gate_archive.specs.declared.rows.BuildSummary.{BuildSummary}
use Rattle.gate_archive.specs.ItemText.{last_of}
use Rattle.gate_memory.specs.declared.pairs.Pair.{Pair}
use Rattle.gate_memory.proofs.IndexLemmas.{last_of_index, told_of}
use Rattle.gate_memory.proofs.builds.BuildTable.last_of.Goals as goal

pub returns : goal.returns
returns c =
    let n = c.args.serial in
    let rows = c.args.self.now.rows.items in
    let told = c.args.self.now.told.items in
    let pairs : c.of_first.result.now ≡ filter (λ (p : Pair). p.first == n) told = rw (c.get.ensures.value, c.deref.ensures.value) at c.of_first.ensures in
    let those : c.last-pairs.result.now ≡ last_of c.args.most (filter (λ (p : Pair). p.first == n) told) = c.last-pairs.ensures ∙ ap (last_of c.args.most) pairs in
    let look : Pair → Option BuildSummary = λ p. told_of rows p.second in
    let all = ap (filter_map look) those ∙ last_of_index n c.args.most told rows c.requires.rows_rise c.requires.all_told in
    rw (c.deref-2.ensures.value, all) at c.summaries.ensures

use Rattle.std.proofs.Common.{◌≡◌, ◌∙◌, ap, length}
use Rattle.std.specs.Prelude.{◌==◌, filter}
use Rattle.gate_memory.specs.declared.pairs.Pair.{Pair}
use Rattle.gate_memory.proofs.IndexLemmas.{count_of_index}
use Rattle.gate_memory.proofs.builds.BuildTable.count_of.Goals as goal

pub returns : goal.returns
returns c =
    let n = c.args.serial in
    let told = c.args.self.now.told.items in
    let pairs : c.of_first.result.now ≡ filter (λ (p : Pair). p.first == n) told = rw (c.get.ensures.value, c.deref.ensures.value) at c.of_first.ensures in
    ap length pairs ∙ count_of_index n told c.args.self.now.rows.items c.requires.rows_rise c.requires.all_told

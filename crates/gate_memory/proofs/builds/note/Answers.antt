use Rattle.std.proofs.Common.{◌≡◌}
use Rattle.gate_types.specs.State.{put_by}
use Rattle.gate_memory.specs.Pairs.{pair_key, IsFit}
use Rattle.gate_memory.specs.Builds.{pair_of}
use Rattle.gate_memory.proofs.IndexLemmas.{index_notes}
use Rattle.gate_memory.proofs.builds.note.Goals as goal

pub returns-clause-index : goal.returns-clause-index
returns-clause-index c =
    let b = c.args.build.now in
    let small : IsFit (pair_of b) = rw c.pair_of.ensures.pair at c.pair_of.ensures.fit in
    let pairs : c.put.new.rows.items ≡ put_by pair_key (pair_of b) c.forget.new.told.items = rw c.pair_of.ensures.pair at c.put.ensures.rows in
    rw pairs (index_notes c.forget.new.told.items b c.args.rows.now c.requires.rising small c.forget.ensures.index)

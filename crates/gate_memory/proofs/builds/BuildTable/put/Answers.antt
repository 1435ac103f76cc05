use Rattle.std.proofs.Common.{◌≡◌}
use Rattle.std.specs.List.{AllByRecursion}
use Rattle.gate_types.specs.State.{put_by}
use Rattle.gate_memory.specs.Pairs.{pair_key, IsFit}
use Rattle.gate_memory.specs.Builds.{Indexes, TellsLive, pair_of}
use Rattle.gate_memory.proofs.BuildLemmas.{all_put, tells_put}
use Rattle.gate_memory.proofs.builds.BuildTable.put.Goals as goal

pub returns-clause-kept : goal.returns-clause-kept
returns-clause-kept c =
    let old = c.args.self.now in
    let b = c.args.build in
    let small : IsFit (pair_of b) = rw c.get-2.ensures.value at c.get-2.type_inv in
    let pairs : c.put.new.rows.items ≡ put_by pair_key (pair_of b) old.live.items = rw (c.get.ensures.value, c.get-2.ensures.value) at c.put.ensures.rows in
    let fit : AllByRecursion IsFit c.put.new.rows.items = rw pairs (all_put IsFit pair_key (pair_of b) old.live.items small c.requires.kept.live_fit) in
    let told : TellsLive c.put.new.rows.items c.put-2.new.rows.items =
    rw (pairs, c.put-2.ensures.rows) (tells_put old.live.items b old.rows.items c.requires.kept.live_fit small c.requires.kept.live_told) in
    let all : Indexes c.note.new.told.items c.put-2.new.rows.items = rw c.put-2.ensures.rows (rw c.deref.ensures.value at c.note.ensures.index) in
    record { rows_rise = c.put-2.ensures.rising; live_rise = c.put.ensures.rising; live_fit = fit; live_told = told; all_told = all }

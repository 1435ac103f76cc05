use Rattle.std.proofs.Common.{◌≡◌}
use Rattle.std.specs.List.{AllByRecursion}
use Rattle.gate_types.specs.State.{put_by}
use Rattle.gate_memory.specs.Pairs.{pair_key, IsFit}
use Rattle.gate_memory.specs.Queues.{TellsItems, indexed_item}
use Rattle.gate_memory.proofs.BuildLemmas.{all_put}
use Rattle.gate_memory.proofs.QueueLemmas.{tells_item_put}
use Rattle.gate_memory.proofs.queues.QueueTable.put_item.Goals as goal

pub returns-clause-kept : goal.returns-clause-kept
returns-clause-kept c =
    let old = c.args.self.now in
    let kept = c.requires.kept in
    let i = c.args.item.now in
    let small : IsFit (indexed_item i) = rw c.entry_of.ensures.entry at c.entry_of.ensures.fit in
    let entries : c.put.new.rows.items ≡ put_by pair_key (indexed_item i) old.entries.items = rw c.entry_of.ensures.entry at c.put.ensures.rows in
    let fit : AllByRecursion IsFit c.put.new.rows.items = rw entries (all_put IsFit pair_key (indexed_item i) old.entries.items small kept.entries_fit) in
    let told : TellsItems c.put.new.rows.items c.put_row.new.items.items =
    rw (entries, c.put_row.ensures.rows) (tells_item_put old.entries.items i old.items.items kept.entries_fit small kept.items_told) in
    record {
      items_rise = c.put_row.ensures.rising;
      entries_rise = c.put.ensures.rising;
      entries_fit = fit;
      items_told = told;
      landings_rise = kept.landings_rise;
      reports = kept.reports;
    }

use Rattle.std.proofs.Common.{◌≡◌, ◌∙◌, ap, sym, Some, None}
use Rattle.std.specs.Prelude.{◌==◌, find}
use Rattle.std.specs.List.{AllByRecursion}
use Rattle.gate_types.specs.Keys.{serial_of_item}
use Rattle.gate_memory.specs.Sorted.{without}
use Rattle.gate_memory.specs.Pairs.{pair_key, IsFit}
use Rattle.gate_memory.specs.Queues.{TellsItems}
use Rattle.gate_memory.proofs.BuildLemmas.{all_without}
use Rattle.gate_memory.proofs.QueueLemmas.{tells_item_dropped, without_missing}
use Rattle.gate_book_trait.proofs.Finding.{found_has}
use Rattle.gate_memory.proofs.queues.QueueTable.drop_item.Goals as goal

pub returns-in-Some-clause-kept : goal.returns-in-Some-clause-kept
returns-in-Some-clause-kept c =
    let old = c.args.self.now in
    let kept = c.requires.kept in
    let n = c.args.serial in
    let i = c.in-Some.item.now in
    let p = c.entry_of-entry.result in
    let found : Some i ≡ find (λ j. serial_of_item j == n) old.items.items = rw (c.get-key.ensures.value, c.deref.ensures.value) at c.in-Some.ensures in
    let second : p.second ≡ n = ap (λ q. q.second) c.entry_of-entry.ensures.entry ∙ found_has serial_of_item n i old.items.items found in
    let entries : c.remove.new.rows.items ≡ without pair_key (pair_key p) old.entries.items = rw c.key.ensures at c.remove.ensures.rows in
    let items : c.remove-in-Some.new.rows.items ≡ without serial_of_item n old.items.items = rw c.get-key.ensures.value at c.remove-in-Some.ensures.rows in
    let fit : AllByRecursion IsFit c.remove.new.rows.items = rw entries (all_without IsFit pair_key (pair_key p) old.entries.items kept.entries_fit) in
    let told : TellsItems c.remove.new.rows.items c.remove-in-Some.new.rows.items =
    rw (entries, items) (tells_item_dropped old.entries.items p n old.items.items kept.entries_fit c.entry_of-entry.ensures.fit second kept.items_told) in
    record {
      items_rise = c.remove-in-Some.ensures.rising;
      entries_rise = c.remove.ensures.rising;
      entries_fit = fit;
      items_told = told;
      landings_rise = kept.landings_rise;
      reports = kept.reports;
    }

pub returns-in_default-clause-rows : goal.returns-in_default-clause-rows
returns-in_default-clause-rows c =
    let old = c.args.self.now in
    let missing : None ≡ find (λ j. serial_of_item j == c.args.serial) old.items.items = rw (c.get-key.ensures.value, c.deref.ensures.value) at c.in_default.ensures in
    λ k. record { name = old.name; window = old.window; items = without_missing c.args.serial old.items.items (sym missing) k; landings = old.landings.items; reports = old.reports.rows.items }

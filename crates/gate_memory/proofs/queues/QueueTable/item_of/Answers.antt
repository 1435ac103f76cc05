use Rattle.std.proofs.Common.{◌≡◌, ◌∙◌, ap, arith}
use Rattle.std.specs.Prelude.{◌==◌, Option, filter}
use Rattle.std.specs.List.{filter_map}
use Rattle.std.specs.Option.{option_copied}
use Rattle.gate_types.specs.declared.records.Item.{Item}
use Rattle.gate_types.specs.Keys.{serial_of_item}
use Rattle.gate_memory.specs.declared.pairs.Pair.{Pair}
use Rattle.gate_memory.specs.Sorted.{passing_at, first_of}
use Rattle.gate_memory.specs.Queues.{is_item_of}
use Rattle.gate_memory.proofs.CollectLemmas.{collected}
use Rattle.gate_memory.proofs.PairLemmas.{seconds_rise, seconds_of, filter_map_seconds}
use Rattle.gate_memory.proofs.QueueLemmas.{items_are_told, find_first}
use Rattle.gate_memory.proofs.queues.QueueTable.item_of.Goals as goal

pub returns : goal.returns
returns c =
    let n = c.args.change in
    let items = c.args.self.now.items.items in
    let entries = c.args.self.now.entries.items in
    let test = is_item_of n in
    let pairs : c.of_first.result.now ≡ filter (λ (p : Pair). p.first == n) entries = rw (c.get.ensures.value, c.deref-2.ensures.value) at c.of_first.ensures in
    let look : Pair → Option Item = λ p. passing_at serial_of_item test items p.second in
    let found : option_copied c.first_item.result ≡ first_of (filter_map look c.of_first.result.now) = rw c.deref.ensures.value at c.first_item.ensures in
    found
    ∙ ap first_of (ap (filter_map look) pairs ∙ filter_map_seconds (passing_at serial_of_item test items) (filter (λ (p : Pair). p.first == n) entries)
    ∙ collected serial_of_item test 0 items c.requires.items_rise 0 (seconds_of n entries)
    (seconds_rise n 0 0 entries c.requires.entries_rise (λ q h e. omega arith)) (items_are_told n entries items c.requires.items_told))
    ∙ find_first test items

use Rattle.std.proofs.Common.{◌≡◌, ◌∙◌, ◌++◌, suc, ◌+◌, [], Option, None, get_or, take, sym, ap, arith}
use Rattle.std.specs.List.{filter_map, cons_option}
use Rattle.gate_types.specs.declared.records.Item.{Item}
use Rattle.gate_types.specs.Keys.{serial_of_item}
use Rattle.gate_memory.specs.declared.pairs.Pair.{Pair}
use Rattle.gate_memory.specs.Sorted.{passing_at}
use Rattle.gate_memory.specs.Queues.{is_item_of}
use Rattle.gate_memory.proofs.CollectLemmas.{filter_map_next}
use Rattle.gate_memory.proofs.QueueLemmas.{first_found}
use Rattle.gate_memory.proofs.queues.first_item.Goals as goal

pub returns-in-Some : goal.returns-in-Some
returns-in-Some c =
    let look : Pair → Option Item = λ p. passing_at serial_of_item (is_item_of c.args.change) c.args.items.now p.second in
    let d : Pair = record { first = 0; second = 0 } in
    sym (first_found look c.args.entries.now c.loop-entry.entry-index d c.in-Some.item.now c.loop-entry-test.true c.loop-entry.invariant (sym c.in-Some.ensures))

pub loop-entry-preserved : goal.loop-entry-preserved
loop-entry-preserved c =
    let look : Pair → Option Item = λ p. passing_at serial_of_item (is_item_of c.args.change) c.args.items.now p.second in
    let entries = c.args.entries.now in
    let k = c.loop-entry.entry-index in
    let d : Pair = record { first = 0; second = 0 } in
    let step : suc k ≡ k + 1 = omega arith in
    let none : look (get_or entries k d) ≡ None = sym c.in_default.ensures in
    sym (ap (λ n. filter_map look (take n entries)) step) ∙ filter_map_next look entries k d c.loop-entry-test.true
    ∙ (λ i. c.loop-entry.invariant i ++ cons_option (none i) [])

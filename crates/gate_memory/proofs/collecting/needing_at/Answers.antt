use Rattle.std.proofs.Common.{◌≡◌, ◌∙◌, ◌++◌, ℕ, suc, ◌+◌, [], Option, take, sym, ap, arith}
use Rattle.std.specs.List.{filter_map, cons_option}
use Rattle.gate_types.specs.declared.records.Item.{Item}
use Rattle.gate_types.specs.Keys.{serial_of_item}
use Rattle.gate_memory.specs.Changes.{changes_of}
use Rattle.gate_memory.specs.Sorted.{passing_at}
use Rattle.gate_book_trait.specs.RowReads.{is_needing_in}
use Rattle.gate_memory.proofs.CollectLemmas.{filter_map_next}
use Rattle.gate_memory.proofs.collecting.needing_at.Goals as goal

pub loop-serial-preserved : goal.loop-serial-preserved
loop-serial-preserved c =
    let look : ℕ → Option Item = passing_at serial_of_item (is_needing_in (changes_of c.args.changes.now) c.args.change c.args.above) c.args.items.now in
    let serials = c.args.serials.now in
    let k = c.loop-serial.serial-index in
    let step : suc k ≡ k + 1 = omega arith in
    c.in_ok-push_item.ensures ∙ (λ i. c.loop-serial.invariant i ++ cons_option (c.if_needing.ensures i) [])
    ∙ sym (filter_map_next look serials k 0 c.loop-serial-test.true) ∙ ap (λ n. filter_map look (take n serials)) step

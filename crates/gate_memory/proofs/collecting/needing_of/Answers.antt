use Rattle.std.proofs.Common.{◌≡◌, ◌∙◌, Bool, true, refl}
use Rattle.std.specs.Prelude.{nat_lt}
use Rattle.gate_types.specs.declared.records.Item.{Item}
use Rattle.gate_types.specs.Keys.{serial_of_item}
use Rattle.gate_types.specs.Rising.{In}
use Rattle.gate_memory.specs.declared.pairs.Pair.{Pair}
use Rattle.gate_memory.specs.Changes.{changes_of}
use Rattle.gate_memory.specs.Needs.{TellsSerials, pair_of_need}
use Rattle.gate_book_trait.specs.RowReads.{is_needing_in}
use Rattle.gate_book_trait.proofs.Finding.{all_in}
use Rattle.gate_memory.proofs.CollectLemmas.{AreTold, collected}
use Rattle.gate_memory.proofs.NeedLemmas.{all_from}
use Rattle.gate_book_trait.proofs.ReadLemmas.{and_second}
use Rattle.gate_memory.proofs.collecting.needing_of.Goals as goal

pub returns : goal.returns
returns c =
    let items = c.args.queue.now.items.items in
    let n = c.args.change in
    let test : Item → Bool = is_needing_in (changes_of c.args.changes.now) n c.args.above in
    let serials = c.in_ok-serials.serials.items in
    let told : AreTold serial_of_item test items serials = all_from (λ (i : Item). test i ≡ true → In i.serial serials) items (λ i there e.
    let pair = c.needing.ensures.told i.change (and_second (nat_lt c.args.above i.serial) _ e) in
    let of_pair : TellsSerials i.change serials items = all_in (λ (p : Pair). TellsSerials p.second serials items) c.needing.result.now (pair_of_need n i.change) c.in_ok-serials.ensures.told pair in
    all_in (λ (j : Item). j.change ≡ i.change → In j.serial serials) items i of_pair there refl) in
    (rw (c.item_rows.ensures.rows, c.deref.ensures.value) at c.in_ok-found.ensures)
    ∙ collected serial_of_item test 0 items c.requires.queue.items_rise 0 serials c.in_ok-serials.ensures.rising told

use Rattle.std.proofs.Common.{take}
use Rattle.std.specs.List.{AllByRecursion}
use Rattle.gate_memory.specs.declared.pairs.Pair.{Pair}
use Rattle.gate_memory.specs.Needs.{IsSmall, TellsSerials}
use Rattle.gate_book_trait.proofs.Finding.{in_weaker}
use Rattle.gate_memory.proofs.LoopLemmas.{all_at}
use Rattle.gate_memory.proofs.NeedLemmas.{all_next, serials_more}
use Rattle.gate_memory.proofs.collecting.serials_of.Goals as goal

pub add_serials-requires-clause-next : goal.add_serials-requires-clause-next
add_serials-requires-clause-next c =
    let d : Pair = record { first = 0; second = 0 } in
    all_at IsSmall c.args.pairs.now c.loop-pair.pair-index d c.requires.small c.loop-pair-test.true

pub loop-pair-preserved : goal.loop-pair-preserved
loop-pair-preserved c =
    let items = c.args.queue.now.items.items in
    let old = c.loop-pair.serials.items in
    let new = c.add_serials.new.serials.items in
    let d : Pair = record { first = 0; second = 0 } in
    let first = take c.loop-pair.pair-index c.args.pairs.now in
    let told : AllByRecursion (λ (p : Pair). TellsSerials p.second new items) first = in_weaker
    (λ (p : Pair). TellsSerials p.second old items) (λ (p : Pair). TellsSerials p.second new items)
    (λ p t. serials_more p.second old new items c.in_ok-add_serials.ensures.others t) first c.loop-pair.invariant.told in
    record {
      rising = c.in_ok-add_serials.ensures.rising;
      told = all_next (λ (p : Pair). TellsSerials p.second new items) c.args.pairs.now c.loop-pair.pair-index d c.loop-pair-test.true told c.in_ok-add_serials.ensures.told;
    }

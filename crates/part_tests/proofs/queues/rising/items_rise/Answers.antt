use Rattle.std.proofs.Common.{◌≡◌, ◌∙◌, sym, ap, arith}
use Rattle.gate_types.specs.declared.records.Item.{Item}
use Rattle.gate_queue_rules.proofs.Ordered.{rise_more}
use Rattle.part_tests.proofs.queues.rising.items_rise.Goals as goal

pub loop-index-preserved : goal.loop-index-preserved
loop-index-preserved c =
    let here : c.get.result ≡ c.index-items-index.result.serial = c.get.ensures.value ∙ sym (ap (λ (x : Item). x.serial) c.index-items-index.is) in
    let back : c.get-in-loop-index.result ≡ c.index-items-index-in-loop-index.result.serial = c.get-in-loop-index.ensures.value ∙ sym (ap (λ (x : Item). x.serial) c.index-items-index-in-loop-index.is) in
    rise_more (λ (x : Item). x.serial) c.args.items.now c.loop-index.index c.index-items-index.result c.index-items-index-in-loop-index.result (omega arith) (omega arith) c.index-items-index.is c.index-items-index-in-loop-index.is (omega arith) c.loop-index.invariant

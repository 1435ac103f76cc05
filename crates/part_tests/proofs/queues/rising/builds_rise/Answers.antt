use Rattle.std.proofs.Common.{◌≡◌, ◌∙◌, sym, ap, arith}
use Rattle.gate_types.specs.declared.records.Build.{Build}
use Rattle.gate_queue_rules.proofs.Ordered.{rise_more}
use Rattle.part_tests.proofs.queues.rising.builds_rise.Goals as goal

pub loop-index-preserved : goal.loop-index-preserved
loop-index-preserved c =
    let here : c.get.result ≡ c.index-builds-index.result.number = c.get.ensures.value ∙ sym (ap (λ (x : Build). x.number) c.index-builds-index.is) in
    let back : c.get-in-loop-index.result ≡ c.index-builds-index-in-loop-index.result.number = c.get-in-loop-index.ensures.value ∙ sym (ap (λ (x : Build). x.number) c.index-builds-index-in-loop-index.is) in
    rise_more (λ (x : Build). x.number) c.args.builds.now c.loop-index.index c.index-builds-index.result c.index-builds-index-in-loop-index.result (omega arith) (omega arith) c.index-builds-index.is c.index-builds-index-in-loop-index.is (omega arith) c.loop-index.invariant

use Rattle.std.proofs.Common.{◌∙◌, sym, ap, subst, rules}
use Rattle.gate_book_trait.specs.Reads.{first_above}
use Rattle.gate_book_trait.proofs.KeptLemmas.{then}
use Rattle.gate_book_trait.proofs.ReadingLemmas.{is_read_under}
use Rattle.gate_reads.specs.Orders.{order_in, TellsOrder}
use Rattle.gate_reads.proofs.Walking.{lawful_front, rows_are}
use Rattle.gate_reads.proofs.Passing.{Passed, passed_front, passed_next, passed_here, passed_end, at_here, some_queue}
use Rattle.gate_reads.proofs.Passing.{tells_here, tells_none}
use Rattle.gate_reads.proofs.orders.order_of_queue.Goals as goal

pub loop-item-init : goal.loop-item-init
loop-item-init g c = record {
  kept = search rules;
  passed = λ trusted x holds lawful q named.
      passed_front c.args.config.now x.state q (lawful_front c.args.config.now x lawful c.args.queue.now q named);
}

pub returns-then-not-item : goal.returns-then-not-item
returns-then-not-item g c = is_read_under (λ trusted x holds lawful.
    let s = x.state in
    let config = c.args.config.now in
    let name = c.args.queue.now in
    let row = c.in-Some.item in
    let before = c.in_ok-ended.ensures.kept.trusted_before trusted in
    let start = c.in_ok-item.ensures.reads.kept.trusted_before before in
    let held = c.loop-item.invariant.kept.holds_on start _ x holds in
    let some = sym (c.in_ok-item.ensures.reads.found before _ x held lawful) ∙ c.in-Some.is in
    let queue = some_queue config s name c.loop-item.above row some in
    let here = passed_here config s queue.0 c.loop-item.above row
    (c.loop-item.invariant.passed start x holds lawful queue.0 queue.1)
    (ap (first_above c.loop-item.above) (sym (rows_are config s name queue.0 queue.1)) ∙ some) c.if-not-item.true in
    let ended = c.in_ok-ended.ensures.found trusted x (c.in_ok-item.ensures.reads.kept.holds_on before _ x held) lawful
    here.place (at_here config s name queue.0 row queue.1 here) c.if-not-item.true in
    subst (λ found. TellsOrder config s name found (order_in config s name)) (sym c.then_some.ensures)
    (tells_here config s name queue.0 row c.in_ok-ended.ended queue.1 here ended))
    (search rules) (search rules)

pub loop-item-preserved : goal.loop-item-preserved
loop-item-preserved g c = record {
  kept = then c.loop-item.invariant.kept c.in_ok-item.ensures.reads.kept;
  passed = λ trusted x holds lawful q named.
      let s = x.state in
      let config = c.args.config.now in
      let start = c.in_ok-item.ensures.reads.kept.trusted_before trusted in
      let held = c.loop-item.invariant.kept.holds_on start _ x holds in
      let some = ap (first_above c.loop-item.above) (sym (rows_are config s c.args.queue.now q named))
      ∙ sym (c.in_ok-item.ensures.reads.found trusted _ x held lawful) ∙ c.in-Some.is in
      subst (Passed config s q) (sym c.get-above.ensures.value)
      (passed_next config s q c.loop-item.above c.in-Some.item
      (c.loop-item.invariant.passed start x holds lawful q named) some c.if-not-item.false);
}

pub returns : goal.returns
returns g c = is_read_under (λ trusted x holds lawful.
    let s = x.state in
    let config = c.args.config.now in
    let name = c.args.queue.now in
    let start = c.in_ok-item.ensures.reads.kept.trusted_before trusted in
    let held = c.loop-item.invariant.kept.holds_on start _ x holds in
    tells_none config s name (λ q named. passed_end config s q c.loop-item.above
    (c.loop-item.invariant.passed start x holds lawful q named)
    (ap (first_above c.loop-item.above) (sym (rows_are config s name q named))
    ∙ sym (c.in_ok-item.ensures.reads.found trusted _ x held lawful) ∙ c.in_default.is)))
    (search rules) (search rules)

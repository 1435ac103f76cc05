use Rattle.std.proofs.Common.{subst, rules}
use Rattle.gate_book_trait.proofs.ReadingLemmas.{is_read_under}
use Rattle.gate_reads.specs.Orders.{order_in, TellsOrder}
use Rattle.gate_texts.proofs.Listed.{told_some, told_none}
use Rattle.gate_texts.proofs.orders.order_of.Goals as goal

pub returns-in_ok-order_text-in-Some : goal.returns-in_ok-order_text-in-Some
returns-in_ok-order_text-in-Some g c = is_read_under (λ trusted x holds lawful.
    let s = x.state in
    let config = c.args.config.now in
    let name = c.args.queue.now in
    let before = c.in_ok-order_text-in-Some.ensures.kept.trusted_before trusted in
    let held = c.in_ok-item.ensures.kept.holds_on before _ x holds in
    told_some config s name c.in-Some.item (order_in config s name) c.in_ok-order_text-in-Some.field-0
    (subst (λ o. TellsOrder config s name o (order_in config s name)) c.in-Some.is
    (c.in_ok-item.ensures.found before x holds lawful))
    (c.in_ok-order_text-in-Some.ensures.found trusted config x held lawful))
    (search rules) (search rules)

pub returns-in-None : goal.returns-in-None
returns-in-None g c = is_read_under (λ trusted x holds lawful.
    let s = x.state in
    let config = c.args.config.now in
    let name = c.args.queue.now in
    told_none config s name (order_in config s name)
    (subst (λ o. TellsOrder config s name o (order_in config s name)) c.in-None.is
    (c.in_ok-item.ensures.found trusted x holds lawful)))
    (search rules) (search rules)

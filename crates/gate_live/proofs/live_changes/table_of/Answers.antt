use Rattle.gate_live.proofs.LiveChangeLemmas.{items_told}
use Rattle.gate_live.proofs.live_changes.table_of.Goals as goal

pub returns-in-Some-clause-items : goal.returns-in-Some-clause-items
returns-in-Some-clause-items c =
    items_told c.table_of.result (λ t. t.now.items.items) c.args.held.now c.in-Some.held c.args.queue.now c.in-Some.is c.table_of.ensures.items

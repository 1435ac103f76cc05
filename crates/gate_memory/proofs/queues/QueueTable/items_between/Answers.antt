use Rattle.std.proofs.Common.{◌≡◌, Bool, ap, ◌∙◌}
use Rattle.std.specs.Prelude.{filter, nat_lt, nat_le}
use Rattle.gate_types.specs.declared.records.Item.{Item}
use Rattle.gate_types.proofs.PlainLemmas.{filter_twice}
use Rattle.gate_memory.proofs.queues.QueueTable.items_between.Goals as goal

pub returns : goal.returns
returns c =
    let up : Item → Bool = λ i. nat_le i.serial c.args.last in
    let found : c.up_to.result.now ≡ filter up c.items_behind.result.now = rw c.get.ensures.value at c.up_to.ensures in
    found ∙ ap (filter up) c.items_behind.ensures.rows
    ∙ filter_twice (λ (i : Item). nat_lt c.args.above i.serial) up c.args.self.now.items.items

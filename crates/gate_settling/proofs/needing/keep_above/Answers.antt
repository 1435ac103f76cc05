use Rattle.std.proofs.Common.{rules, nat_lt}
use Rattle.std.proofs.lemmas.Fn.{filter_same}
use Rattle.gate_types.specs.declared.records.Item.{Item}
use Rattle.gate_settling.proofs.needing.keep_above.Goals as goal

pub returns : goal.returns
returns c =
    filter_same _ (λ (r : Item). nat_lt c.args.serial r.serial) _ (λ r kept f called. search rules) _ _ c.retain.ensures.filtered

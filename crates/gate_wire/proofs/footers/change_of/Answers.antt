use Rattle.std.proofs.Common.{sym, ◌∙◌}
use Rattle.gate_wire.proofs.NumberLemmas.{number_found}
use Rattle.gate_wire.proofs.footers.change_of.Goals as goal

pub returns-then-begins_above_zero : goal.returns-then-begins_above_zero
returns-then-begins_above_zero c =
    number_found c.args.digits.now c.new.result (sym c.are_digits.ensures ∙ c.if-are_digits.true) c.if-digits-le9.true (sym c.begins_above_zero.ensures ∙ c.if-begins_above_zero.true)
    (rw c.value_of.ensures at c.new.ensures.range) (rw c.value_of.ensures at c.new.ensures.value)

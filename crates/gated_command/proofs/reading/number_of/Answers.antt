use Rattle.std.proofs.Common.{ap, arith, sym, ◌∙◌}
use Rattle.std.specs.Prelude.{Some}
use Rattle.gated_command.proofs.NumberLemmas.{in_range, out_of_range}
use Rattle.gated_command.proofs.reading.number_of.Goals as goal

pub returns-in-Ok-clause-value : goal.returns-in-Ok-clause-value
returns-in-Ok-clause-value c =
    let read = c.in-Ok.ensures.value.0 in
    ap Some read.1 ∙ sym (in_range c.args.least c.args.most c.args.text.now (
      read.0.0,
      read.0.1,
      omega (arith, c.if-least-number.true, read.1),
      omega (arith, c.if-number-most.true, read.1),
    ))

pub returns-in_default-3-clause-value : goal.returns-in_default-3-clause-value
returns-in_default-3-clause-value c =
    sym (out_of_range c.args.least c.args.most c.args.text.now (λ h. c.in_default.ensures.value.0 (h.0, h.1)))

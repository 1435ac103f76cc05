use Rattle.std.proofs.Common.{arith, get_or}
use Rattle.gate_wire.proofs.NumberLemmas.{digit_at, value_step}
use Rattle.gate_types.proofs.DigitLemmas.{digit_is}
use Rattle.gate_wire.proofs.footers.value_of.Goals as goal

pub overflow_mul-value : goal.overflow_mul-value
overflow_mul-value c = omega (arith, c.loop-digit.invariant, (value_step _ _ c.requires.form c.requires.few c.loop-digit-test.true).0)

pub overflow_add-value : goal.overflow_add-value
overflow_add-value c =
    let digit = digit_is (get_or c.args.digits.now c.loop-digit.digit-index 0) (digit_at c.args.digits.now c.loop-digit.digit-index 0 c.requires.form c.loop-digit-test.true) in
    let step = value_step c.args.digits.now c.loop-digit.digit-index c.requires.form c.requires.few c.loop-digit-test.true in
    omega (arith, c.loop-digit.invariant, c.from.ensures, digit.1, step.0)

pub loop-digit-preserved : goal.loop-digit-preserved
loop-digit-preserved c =
    let step = value_step c.args.digits.now c.loop-digit.digit-index c.requires.form c.requires.few c.loop-digit-test.true in
    omega (arith, c.loop-digit.invariant, c.from.ensures, step.1)

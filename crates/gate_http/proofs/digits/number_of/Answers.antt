use Rattle.std.proofs.Common.{◌∙◌, sym, arith}
use Rattle.std.specs.Char.{is_ascii_digit}
use Rattle.std.proofs.lemmas.List.Folds.{list_all_more}
use Rattle.gate_http.proofs.DigitLemmas.{number_more}
use Rattle.gate_http.proofs.digits.number_of.Goals as goal

pub loop-digit-preserved : goal.loop-digit-preserved
loop-digit-preserved c =
    let e = c.if-not-is_ascii_digit.ensures in record {
      digits = rw (
        list_all_more is_ascii_digit c.args.text.now c.loop-digit.digit-index 0 c.loop-digit-test.true,
        c.loop-digit.invariant.digits,
      ) (sym e.value);
      number = c.min-n.ensures ∙ number_more c.args.text.now c.args.most c.loop-digit.digit-index c.loop-digit.n
          c.loop-digit-test.true (omega (arith, e.cases)) (omega (arith, e.cases)) c.loop-digit.invariant.number;
    }

use Rattle.std.proofs.Common.{refl}
use Rattle.gate_kept_settings.specs.Reading.{rule_at}
use Rattle.gate_kept_settings.proofs.ReadingLemmas.{stops, goes_on, then}
use Rattle.gate_kept_settings.proofs.reading.rule_of.Goals as goal

pub returns-in_err-pace_of : goal.returns-in_err-pace_of
unfolding rule_at
returns-in_err-pace_of c = stops (λ r. r) _ _ _ _ c.from_residual.ensures.1 c.in_err-pace_of.ensures

pub returns-in_err-factor_of : goal.returns-in_err-factor_of
unfolding rule_at
returns-in_err-factor_of c =
    goes_on (λ r. r) _ _ _ _ c.in_ok-pace_of.ensures
    (stops (λ r. r) _ _ _ _ c.from_residual-in_err-factor_of.ensures.1 c.in_err-factor_of.ensures)

pub returns-in_err-pace_of-2 : goal.returns-in_err-pace_of-2
unfolding rule_at
returns-in_err-pace_of-2 c =
    goes_on (λ r. r) _ _ _ _ c.in_ok-pace_of.ensures
    (goes_on (λ r. r) _ _ _ _ c.in_ok-factor_of.ensures
    (stops (λ r. r) _ _ _ _ c.from_residual-in_err-pace_of-2.ensures.1 c.in_err-pace_of-2.ensures))

pub returns-in_err-factor_of-2 : goal.returns-in_err-factor_of-2
unfolding rule_at
returns-in_err-factor_of-2 c =
    goes_on (λ r. r) _ _ _ _ c.in_ok-pace_of.ensures
    (goes_on (λ r. r) _ _ _ _ c.in_ok-factor_of.ensures
    (goes_on (λ r. r) _ _ _ _ c.in_ok-pace_of-2.ensures
    (stops (λ r. r) _ _ _ _ c.from_residual-in_err-factor_of-2.ensures.1 c.in_err-factor_of-2.ensures)))

pub returns : goal.returns
unfolding rule_at
returns c =
    then _ _ _ _ c.in_ok-pace_of.ensures
    (then _ _ _ _ c.in_ok-factor_of.ensures
    (then _ _ _ _ c.in_ok-pace_of-2.ensures
    (then _ _ _ _ c.in_ok-factor_of-2.ensures refl)))

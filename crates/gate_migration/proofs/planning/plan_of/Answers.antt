use Rattle.std.proofs.Common.{◌≡◌, ◌∙◌, ap}
use Rattle.std.proofs.lemmas.Result.{IfOk-weaker}
use Rattle.sqlite_value.specs.Order.{column}
use Rattle.gate_migration.specs.Migrates.{plan_for}
use Rattle.gate_migration.proofs.planning.plan_of.Goals as goal

pub returns-clause-found : goal.returns-clause-found
returns-clause-found g c clean b s shows are pair is =
    let serial : c.in_ok-serial.serial ≡ pair.0 = c.in_ok-serial.ensures.ok pair.0 (ap (λ r. column r 0) is) in
    let change : c.in_ok-change.change ≡ pair.1 = c.in_ok-change.ensures.ok pair.1 (ap (λ r. column r 1) is) in
    IfOk-weaker c.plan_for.result _ _ (λ p h. h ∙ (λ i. plan_for c.args.config.now s c.args.may_fail_fast (serial i, change i))) (c.plan_for.ensures.found clean b s shows are)

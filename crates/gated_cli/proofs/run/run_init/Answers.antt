use Rattle.std.proofs.Common.{inr}
use Rattle.std.proofs.lemmas.Result.{IfErr-weaker, on_ok_weaker}
use Rattle.gated_cli.proofs.run.run_init.Goals as goal

pub returns-clause-made : goal.returns-clause-made
returns-clause-made g c =
    on_ok_weaker c.make.result (λ led. (c.in_ok-config.config, c.in_ok-config.ensures.ok, led)) c.make.ensures.made

pub returns-clause-why : goal.returns-clause-why
returns-clause-why g c = IfErr-weaker c.make.result _ _
    (λ f why. inr (c.in_ok-config.config, c.in_ok-config.ensures.ok, why)) c.make.ensures.why

use Rattle.std.proofs.Common.{inr}
use Rattle.std.proofs.lemmas.Result.{IfErr-weaker, on_ok_weaker}
use Rattle.gated_cli.proofs.run.run_show.Goals as goal

pub returns-clause-made : goal.returns-clause-made
returns-clause-made g c =
    on_ok_weaker c.show.result (λ led. (c.in_ok-config.config, c.in_ok-config.ensures.ok, led)) c.show.ensures.made

pub returns-clause-why : goal.returns-clause-why
returns-clause-why g c =
    IfErr-weaker c.show.result _ _ (λ f why. inr (c.in_ok-config.config, c.in_ok-config.ensures.ok, why)) c.show.ensures.why

use Rattle.std.proofs.Common.{inr, refl}
use Rattle.gated_cli.proofs.TalkLemmas.{none_so_far}
use Rattle.std.proofs.lemmas.Result.{IfErr-weaker, on_ok_weaker}
use Rattle.gated_cli.proofs.run.run_serve.Goals as goal

pub returns-in_err-config-clause-told : goal.returns-in_err-config-clause-told
returns-in_err-config-clause-told g c =
    none_so_far g.E.Write.contents c.args.count c.args.errors.now c.args.errors.now c.requires.teller refl

pub returns-clause-made : goal.returns-clause-made
returns-clause-made g c =
    on_ok_weaker c.serve.result (λ led. (c.in_ok-config.config, c.in_ok-config.ensures.ok, led)) c.serve.ensures.made

pub returns-clause-why : goal.returns-clause-why
returns-clause-why g c = IfErr-weaker c.serve.result _ _
    (λ f why. inr (c.in_ok-config.config, c.in_ok-config.ensures.ok, why)) c.serve.ensures.why

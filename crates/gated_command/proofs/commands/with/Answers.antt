use Rattle.std.proofs.Common.{ap, ap₂, subst, ◌≡◌, ◌∙◌}
use Rattle.std.specs.Result.{IfOk}
use Rattle.std.proofs.lemmas.Result.{IfOk-weaker}
use Rattle.clap.specs.Words.{App, app_of, with_subcommand}
use Rattle.gated_command.specs.CommandLine.{IsCommand}
use Rattle.gated_command.proofs.commands.with.Goals as goal

pub returns : goal.returns
returns c apps app of_whole of_one =
    let whole : app_of c.in_ok-whole.field-0 ≡ apps = subst (λ r. IfOk r (λ c. app_of c ≡ apps)) c.in_ok-whole.was of_whole in
    let one : IsCommand app c.in_ok-one.field-0 = subst (λ r. IfOk r (IsCommand app)) c.in_ok-one.was of_one in
    IfOk-weaker c.subcommand.result _ _
    (λ r h. h.shape one.1 ∙ ap₂ with_subcommand whole (ap (λ (a : App). a.top) one.0)) c.subcommand.ensures

use Rattle.std.proofs.Common.{rules, ap, ap₂, codes, false, ◌||◌, ◌≡◌, ◌∙◌}
use Rattle.std.proofs.lemmas.Result.{IfOk-weaker}
use Rattle.clap.specs.Simple.{app_of_fields}
use Rattle.clap.specs.Words.{app_of, new_app, with_rule}
use Rattle.clap.specs.declared.builder.command.Command.TheViews.{out-Command as fields_of}
use Rattle.gated_command.proofs.commands.check.Goals as goal

pub returns : goal.returns
returns c =
    let about : app_of c.about.result ≡ new_app (codes "check") = ap app_of_fields c.about.ensures ∙ c.new.ensures.app in
    let local : (fields_of c.about.result).has_globals ≡ false = ap (λ f. f.has_globals) c.about.ensures ∙ c.new.ensures.local in
    IfOk-weaker c.arg.result _ _ (λ r h. (h.shape (search rules) ∙ ap₂ with_rule about c.settings.ensures.rule, h.globals ∙ ap₂ (λ a b. a || b) local (search rules))) c.arg.ensures

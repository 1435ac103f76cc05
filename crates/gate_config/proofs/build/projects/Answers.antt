use Rattle.std.proofs.Common.{ap, ◌∙◌}
use Rattle.toml.specs.View.{view}
use Rattle.gate_config.specs.Document.{said_project}
use Rattle.gate_config.specs.Rules.{is_bad_project}
use Rattle.gate_config.proofs.DocumentLemmas.{none_at, made_one}
use Rattle.gate_config.proofs.build.projects.Goals as goal

pub project-requires : goal.project-requires
project-requires c =
    ap (λ v. is_bad_project (view v)) c.value-item.is ∙ none_at (λ v. is_bad_project (view v)) _ _ _ c.loop-value-test.true c.requires

pub loop-value-preserved : goal.loop-value-preserved
loop-value-preserved c =
    made_one (λ v. said_project (view v)) _ _ _ _ _ _ c.loop-value.invariant c.loop-value-test.true c.value-item.is c.in_ok-project.ensures c.in_ok-push.ensures.items

use Rattle.std.proofs.Common.{ap, ◌∙◌}
use Rattle.toml.specs.View.{view}
use Rattle.gate_config.specs.Rules.{is_bad_queue}
use Rattle.gate_config.proofs.DocumentLemmas.{none_at}
use Rattle.gate_config.proofs.build.queues.Goals as goal

pub queue-requires : goal.queue-requires
queue-requires c =
    ap (λ v. is_bad_queue (view v)) c.value-item.is ∙ none_at (λ v. is_bad_queue (view v)) _ _ _ c.loop-value-test.true c.requires

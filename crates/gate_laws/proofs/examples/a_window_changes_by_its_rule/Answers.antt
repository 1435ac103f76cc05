use Rattle.gate_laws.proofs.LimitExamplesComputed.{a_window_changes_by_its_rule}
use Rattle.gate_laws.proofs.examples.a_window_changes_by_its_rule.Goals as goal

pub returns : goal.returns
returns c = a_window_changes_by_its_rule

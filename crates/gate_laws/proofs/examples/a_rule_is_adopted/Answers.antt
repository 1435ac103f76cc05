use Rattle.gate_laws.proofs.AdoptionExamplesComputed.{a_rule_is_adopted}
use Rattle.gate_laws.proofs.examples.a_rule_is_adopted.Goals as goal

pub returns : goal.returns
returns c = a_rule_is_adopted

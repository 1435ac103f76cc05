use Rattle.std.proofs.Common.{rules}
use Rattle.gate_types.proofs.names.Message.as_str.Goals as goal

pub returns-clause-value : goal.returns-clause-value
returns-clause-value c = search rules

pub returns-clause-form : goal.returns-clause-form
returns-clause-form c = search rules

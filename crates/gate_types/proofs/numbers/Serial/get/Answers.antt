use Rattle.std.proofs.Common.{rules}
use Rattle.gate_types.proofs.numbers.Serial.get.Goals as goal

pub returns-clause-value : goal.returns-clause-value
returns-clause-value c = search rules

use Rattle.std.proofs.Common.{rules}
use Rattle.gate_types.proofs.numbers.ChangeNo.new.Goals as goal

pub returns-else-number-ge1-clause-range : goal.returns-else-number-ge1-clause-range
returns-else-number-ge1-clause-range c = search rules

use Rattle.std.proofs.Common.{rules}
use Rattle.gate_types.proofs.deliveries.OutcomeFromEnding.from.Goals as goal

pub returns-in-Lost : goal.returns-in-Lost
returns-in-Lost c = search rules

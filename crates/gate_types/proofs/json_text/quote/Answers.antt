use Rattle.std.proofs.Common.{rules}
use Rattle.gate_types.proofs.json_text.quote.Goals as goal

pub returns : goal.returns
returns c = search rules

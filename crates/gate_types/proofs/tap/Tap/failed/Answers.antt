use Rattle.std.proofs.Common.{rules}
use Rattle.gate_types.proofs.tap.Tap.failed.Goals as goal

pub returns : goal.returns
returns g c = search rules

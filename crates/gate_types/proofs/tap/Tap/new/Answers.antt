use Rattle.std.proofs.Common.{rules}
use Rattle.gate_types.proofs.tap.Tap.new.Goals as goal

pub returns-clause-unfailed : goal.returns-clause-unfailed
returns-clause-unfailed g c = search rules

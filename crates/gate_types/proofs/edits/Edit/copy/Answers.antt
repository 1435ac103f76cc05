use Rattle.std.proofs.Common.{rules}
use Rattle.gate_types.proofs.edits.Edit.copy.Goals as goal

pub returns-in_ok-copy-in-SetWindow : goal.returns-in_ok-copy-in-SetWindow
returns-in_ok-copy-in-SetWindow c = search rules

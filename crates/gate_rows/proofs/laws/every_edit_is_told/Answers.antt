use Rattle.gate_rows.proofs.EveryEdit.{every_told}
use Rattle.gate_rows.proofs.laws.every_edit_is_told.Goals as goal

pub returns : goal.returns
returns c = every_told

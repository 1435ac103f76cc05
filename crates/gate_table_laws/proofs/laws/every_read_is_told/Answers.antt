use Rattle.gate_table_laws.proofs.told.Reads.{reads_are_told}
use Rattle.gate_table_laws.proofs.laws.every_read_is_told.Goals as goal

pub returns : goal.returns
returns c = λ settings content rows. reads_are_told

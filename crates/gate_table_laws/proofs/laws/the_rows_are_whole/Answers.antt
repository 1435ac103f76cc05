use Rattle.gate_table_laws.proofs.told.Whole.{rows_are_whole}
use Rattle.gate_table_laws.proofs.laws.the_rows_are_whole.Goals as goal

pub returns : goal.returns
returns c = λ settings content rows. rows_are_whole

use Rattle.gate_file_meta.proofs.SchemaLemmas.{none_listed}
use Rattle.gate_sql.proofs.laws.a_file_that_lists_nothing_is_empty.Goals as goal

pub returns : goal.returns
returns c = record { schema = none_listed }

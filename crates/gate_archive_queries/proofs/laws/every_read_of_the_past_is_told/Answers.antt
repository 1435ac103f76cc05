use Rattle.gate_archive_queries.proofs.ToldReads.{past_is_told}
use Rattle.gate_archive_queries.proofs.laws.every_read_of_the_past_is_told.Goals as goal

pub returns : goal.returns
returns c = λ settings content rows. past_is_told

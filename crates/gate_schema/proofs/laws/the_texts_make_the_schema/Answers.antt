use Rattle.gate_schema.proofs.TextLemmas.{all_made}
use Rattle.gate_schema.proofs.laws.the_texts_make_the_schema.Goals as goal

pub returns : goal.returns
returns c = record { schema = all_made }

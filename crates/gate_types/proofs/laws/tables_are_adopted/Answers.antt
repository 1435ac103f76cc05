use Rattle.gate_types.proofs.AdoptedLemmas as law
use Rattle.gate_types.proofs.laws.tables_are_adopted.Goals as goal

pub returns : goal.returns
returns c = law.tables_are_adopted

use Rattle.gate_laws.proofs.MigratedIsLawful as law
use Rattle.gate_laws.proofs.migration.nothing_was_cut.Goals as goal

pub returns : goal.returns
returns c = law.nothing_was_cut

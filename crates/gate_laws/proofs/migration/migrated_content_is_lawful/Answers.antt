use Rattle.gate_laws.proofs.MigratedIsLawful as law
use Rattle.gate_laws.proofs.migration.migrated_content_is_lawful.Goals as goal

pub returns : goal.returns
returns c = law.migrated_content_is_lawful

use Rattle.gate_types.proofs.OnceLaw as law
use Rattle.gate_types.proofs.laws.only_acting_deliveries_count.Goals as goal

pub returns : goal.returns
returns c = law.state-once

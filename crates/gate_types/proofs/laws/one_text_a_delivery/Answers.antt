use Rattle.gate_types.proofs.OneTextLaw as law
use Rattle.gate_types.proofs.laws.one_text_a_delivery.Goals as goal

pub returns : goal.returns
returns c = law.one_text_a_delivery

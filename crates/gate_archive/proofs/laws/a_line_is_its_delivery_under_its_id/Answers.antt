use Rattle.gate_archive.proofs.LineLaw as law
use Rattle.gate_archive.proofs.laws.a_line_is_its_delivery_under_its_id.Goals as goal

pub returns : goal.returns
returns c = law.a_line_is_its_delivery_under_its_id

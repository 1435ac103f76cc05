use Rattle.gate_laws.proofs.ContentForms as law
use Rattle.gate_laws.proofs.runs.start_with_is_lawful.Goals as goal

pub returns : goal.returns
returns c = law.start_with_is_lawful

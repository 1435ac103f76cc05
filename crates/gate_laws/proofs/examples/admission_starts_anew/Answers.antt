use Rattle.gate_laws.proofs.NeedExamplesComputed.{admission_starts_anew}
use Rattle.gate_laws.proofs.examples.admission_starts_anew.Goals as goal

pub returns : goal.returns
returns c = admission_starts_anew

use Rattle.std.proofs.Common.{ap}
use Rattle.std.specs.Prelude.{is_some}
use Rattle.gate_admission.specs.Enters.{unready}
use Rattle.gate_admission.proofs.entering.unready.Goals as goal

pub returns-in-Some : goal.returns-in-Some
returns-in-Some c = ap (λ o. unready (is_some o) c.args.change) c.in-Some.ensures

pub returns-in-None : goal.returns-in-None
returns-in-None c = ap (λ o. unready (is_some o) c.args.change) c.in-None.ensures

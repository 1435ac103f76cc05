use Rattle.std.proofs.Common.{ap}
use Rattle.gated_cli.specs.declared.run.fault.Fault.TheVariants as fault
use Rattle.gated_cli.proofs.run.over_file.migrate.Goals as goal

pub returns-in-Err-clause-done : goal.returns-in-Err-clause-done
returns-in-Err-clause-done g c clean up x stands names =
    let h = c.in-Err.ensures.done clean up x stands names in
    (ap fault.File h.0, h.1)

pub returns-in-Err-clause-already : goal.returns-in-Err-clause-already
returns-in-Err-clause-already g c clean up k x stands =
    let h = c.in-Err.ensures.already clean up k x stands in
    (ap fault.File h.0, h.1)

pub returns-in-Err-clause-refused : goal.returns-in-Err-clause-refused
returns-in-Err-clause-refused g c clean other = c.in-Err.ensures.refused clean (λ e. other (ap fault.File e))

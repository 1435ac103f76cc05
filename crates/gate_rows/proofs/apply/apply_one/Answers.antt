use Rattle.std.proofs.Common.{rules}
use Rattle.gate_rows.proofs.apply.apply_one.Goals as goal

pub returns-in-PutItem-clause-changes : goal.returns-in-PutItem-clause-changes
returns-in-PutItem-clause-changes g c = search rules

pub returns-in-PutItem-clause-fits : goal.returns-in-PutItem-clause-fits
returns-in-PutItem-clause-fits g c = search rules

use Rattle.std.proofs.Common.{rules}
use Rattle.gate_types.proofs.names.Base.new.Goals as goal

pub returns-else-has_base_form-clause-form : goal.returns-else-has_base_form-clause-form
returns-else-has_base_form-clause-form c = search rules

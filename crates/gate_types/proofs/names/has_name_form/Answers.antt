use Rattle.std.proofs.Common.{rules}
use Rattle.gate_types.proofs.names.has_name_form.Goals as goal

pub returns-then-is_alphanumeric : goal.returns-then-is_alphanumeric
returns-then-is_alphanumeric c = search rules

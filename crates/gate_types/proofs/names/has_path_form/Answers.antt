use Rattle.std.proofs.Common.{rules}
use Rattle.gate_types.proofs.names.has_path_form.Goals as goal

pub returns-else-is_alphanumeric : goal.returns-else-is_alphanumeric
returns-else-is_alphanumeric c = search rules

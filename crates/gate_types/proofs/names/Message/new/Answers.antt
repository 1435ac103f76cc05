use Rattle.std.proofs.Common.{rules}
use Rattle.gate_types.proofs.names.Message.new.Goals as goal

pub returns-else-has_message_form-clause-form : goal.returns-else-has_message_form-clause-form
returns-else-has_message_form-clause-form c = search rules

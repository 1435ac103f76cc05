use Rattle.std.proofs.Common.{rules}
use Rattle.gate_config.proofs.document.text_at.Goals as goal

pub returns-in-Some-as_str : goal.returns-in-Some-as_str
returns-in-Some-as_str c = search rules

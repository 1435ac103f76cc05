use Rattle.std.proofs.Common.{rules}
use Rattle.gate_types.proofs.ReadingLemmas.{value_found, value_none}
use Rattle.gate_kept_settings.proofs.parse.Goals as goal

pub returns-in-Ok : goal.returns-in-Ok
returns-in-Ok c = value_found _ _ c.in-Ok.ensures.ok.0 c.in-Ok.ensures.ok.1

pub returns-else-is_memory : goal.returns-else-is_memory
returns-else-is_memory c = value_none _ (c.in-Err.ensures.err (search rules))

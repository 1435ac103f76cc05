use Rattle.std.proofs.Common.{rules, inr}
use Rattle.toml.proofs.Views.{view-Table}
use Rattle.gate_config.proofs.ReadingLemmas.{document_found, document_none}
use Rattle.gate_config.proofs.parse.Goals as goal

pub returns-in-Ok-clause-ok : goal.returns-in-Ok-clause-ok
returns-in-Ok-clause-ok c = rw view-Table (document_found _ _ c.in-Ok.ensures.ok.0 c.in-Ok.ensures.ok.1)

pub returns-else-is_memory-clause-err : goal.returns-else-is_memory-clause-err
returns-else-is_memory-clause-err c = inr (search rules, document_none _ (c.in-Err.ensures.refused (search rules)))

use Rattle.std.proofs.Common.{ap, rules}
use Rattle.gate_types.proofs.ReadingLemmas.{value_found, value_none}
use Rattle.gate_wire.specs.Reading.{read_or_bad}
use Rattle.gate_wire.proofs.reading.read_delivery.Goals as goal

pub returns-in-Ok : goal.returns-in-Ok
returns-in-Ok c = rw (value_found _ _ c.in-Ok.ensures.ok.0 c.in-Ok.ensures.ok.1) c.from_value.ensures

pub returns-else-is_memory : goal.returns-else-is_memory
returns-else-is_memory c = λ _. ap (read_or_bad c.args.door) (value_none c.args.bytes.now (c.in-Err.ensures.err (search rules)))

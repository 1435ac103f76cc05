use Rattle.std.proofs.Common.{sym}
use Rattle.gate_types.proofs.canonical.result_text.Goals as goal

pub returns : goal.returns
returns c = rw (sym c.get-build.ensures.value, sym c.word-outcome.ensures) c.format.ensures.ok

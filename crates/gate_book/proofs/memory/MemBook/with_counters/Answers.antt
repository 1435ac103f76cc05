use Rattle.std.proofs.Common.{rules}
use Rattle.gate_book.proofs.memory.MemBook.with_counters.Goals as goal

pub returns : goal.returns
returns c = search rules

use Rattle.std.proofs.Common.{rules}
use Rattle.gate_book.proofs.memory.MemBookBook.apply.Goals as goal

pub returns-clause-applied : goal.returns-clause-applied
returns-clause-applied c = search rules

pub returns-clause-unchanged : goal.returns-clause-unchanged
returns-clause-unchanged c = search rules

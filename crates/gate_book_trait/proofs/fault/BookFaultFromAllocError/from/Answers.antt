use Rattle.std.proofs.Common.{rules}
use Rattle.gate_book_trait.proofs.fault.BookFaultFromAllocError.from.Goals as goal

pub returns : goal.returns
returns c = search rules

use Rattle.std.proofs.Common.{rules}
use Rattle.gate_book_trait.proofs.ReadingLemmas.{is_read}
use Rattle.gate_book.proofs.memory.MemBookBook.live_builds.Goals as goal

pub returns : goal.returns
returns c = is_read (search rules) (search rules) (search rules)
